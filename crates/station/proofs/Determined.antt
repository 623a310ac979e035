-- A history leads to one station.
use Rattle.std.proofs.Common.{◌≡◌, ℕ, List, ◌++◌, sym, ap, ◌∙◌, subst}
use Rattle.frames.specs.Finding.{Found}
use Rattle.frames.proofs.Exactness.{one_reading}
use Rattle.lines.specs.Meaning.{Meaning}
use Rattle.station.specs.Inquiries.{Inquiry}
use Rattle.station.specs.Stations.{Station, taken, unless_silent, attempts, replies, up_to_step_three, Pulsed}
use Rattle.station.specs.Histories.{Event, lodges, pulses, collects, History, made, ◌▸◌, Run, Step}

pulse_determined : (b : Station) (line line_after line_other : Meaning) (s t : Station) → Pulsed b line s line_after → Pulsed b line t line_other → s ≡ t
pulse_determined b line line_after line_other s t p r =
    let one = one_reading (b.held ++ taken line) p.findings r.findings p.open_end r.open_end p.reads r.reads in
    let marks : s.mark ≡ t.mark = p.mark ∙ sym r.mark in
    let nexts : s.next ≡ t.next = p.next ∙ sym r.next in
    let helds : s.held ≡ t.held = p.held ∙ ap (unless_silent (taken line)) one.1 ∙ sym r.held in
    let list : List (ℕ × Found) → List Inquiry = λ fs. attempts line.capacity (replies line.capacity fs line.outgoing) (up_to_step_three fs b.places) in
    let lists : s.places ≡ t.places = p.places ∙ ap list one.0 ∙ sym r.places in
    λ i. record { mark = marks i; next = nexts i; places = lists i; held = helds i }

step_determined : (b : Station) (e : Event) (s t : Station) → Step b e s → Step b e t → s ≡ t
step_determined b (lodges c d answer) s t p r = p.1 ∙ sym r.1
step_determined b (pulses line line_after) s t p r = pulse_determined b line line_after line_after s t p r
step_determined b (collects slip memory answer) s t p r = p.1 ∙ sym r.1

pub determined : (h : History) (s t : Station) → Run h s → Run h t → s ≡ t
determined (made m n) s t p r = p ∙ sym r
determined (h ▸ e) s t (b, run, step) (c, other, step_other) =
    step_determined b e s t step (subst (λ x. Step x e t) (sym (determined h b c run other)) step_other)
