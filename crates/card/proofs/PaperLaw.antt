-- Over every history a card holds what its paper card holds.
use Rattle.std.proofs.Common.{◌≡◌, ℕ, List, [], ◌∷◌, ◌++◌, sym, refl, ap, ◌∙◌, subst}
use Rattle.frames.specs.Promises.{Reading}
use Rattle.frames.proofs.Exactness.{one_reading}
use Rattle.station.specs.Inquiries.{Frame}
use Rattle.station.specs.Stations.{taken, unless_silent}
use Rattle.boards.specs.Boards.{Kind}
use Rattle.card.specs.Contents.{Contents, channel_mode}
use Rattle.card.specs.CardPulse.{Card, holds_after_all}
use Rattle.card.specs.PaperCard.{fed_one, fed}
use Rattle.card.specs.CardHistories.{History, made, ◌▸◌, Run, at_first, right_frames, FramesRead, EqualsPaperCard, Always}
use Rattle.card.proofs.Feeding.{all_same, same_as, all_findings}

fed_append : (kind : Kind) (now : Contents) (fs gs : List Frame) → fed channel_mode kind now (fs ++ gs) ≡ fed channel_mode kind (fed channel_mode kind now fs) gs
fed_append kind now [] gs = refl
fed_append kind now (f ∷ fs) gs = fed_append kind (fed_one channel_mode kind now f) fs gs

-- The frames read are one list, and one list of bytes is left open.
read_once : (history : History) (fs gs : List Frame) (one other : List ℕ) → FramesRead history fs one → FramesRead history gs other → (fs ≡ gs) × (one ≡ other)
read_once (made first) fs gs one other (a, b) (c, d) = (a ∙ sym c, b ∙ sym d)
read_once (earlier ▸ pulse) fs gs one other (f0, l0, v0, e0, was0, r0, all0, left0) (f1, l1, v1, e1, was1, r1, all1, left1) =
    let was = read_once earlier f0 f1 l0 l1 was0 was1 in
    let same = one_reading (l0 ++ taken pulse.line) v0 v1 e0 e1 r0 (subst (λ l. Reading 0 (l ++ taken pulse.line) v1 e1) (sym was.1) r1) in
    (all0 ∙ (λ i. was.0 i ++ right_frames (same.0 i)) ∙ sym all1, left0 ∙ ap (unless_silent (taken pulse.line)) same.1 ∙ sym left1)

-- The frames that a run reads, and that the card equals its paper card after them.
abbrev Follows : Kind → History → Card → Type 0
Follows kind history card =
    (frames : List Frame) × FramesRead history frames card.held × (card.holds ≡ fed channel_mode kind (at_first history) frames)

follows : (kind : Kind) (history : History) (card : Card) → Run kind history card → Follows kind history card
follows kind (made first) card e = ([], (refl, ap (λ x. x.held) e), ap (λ x. x.holds) e)
follows kind (earlier ▸ pulse) card (before, run, pulsed) =
    let was = follows kind earlier before run in
    let fs = was.0 in
    let new = right_frames pulsed.findings in (
      fs ++ new,
      (fs, before.held, pulsed.findings, pulsed.open_end, was.1, pulsed.reads, refl, pulsed.held),
      all_same card.holds (holds_after_all kind pulsed.findings before.holds) pulsed.holds
          ∙ all_findings kind pulsed.findings before.holds
          ∙ ap (λ x. fed channel_mode kind x new) was.2
          ∙ sym (fed_append kind (at_first earlier) fs new),
    )

pub equals_paper_card : Always (EqualsPaperCard channel_mode)
equals_paper_card kind history card run =
    let so = follows kind history card run in
    record {
      frames = so.0;
      left = card.held;
      read = so.1;
      only = λ others open_end read. (read_once history so.0 others card.held open_end so.1 read).0;
      equal = same_as card.holds (fed channel_mode kind (at_first history) so.0) so.2;
    }
