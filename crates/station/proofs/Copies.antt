-- The count of copies: how far it can have come at each stage, and which frames a pulse puts.
use Rattle.std.proofs.lemmas.List.{replicate-append-replicate}
use Rattle.std.proofs.Common.{◌≡◌, ℕ, ◌+◌, ◌≤◌, Bool, true, false, cond, eqb, leb, List, [], ◌∷◌, ◌++◌, length, replicate, Some, None, Option, sym, refl, ap, ◌∙◌, subst, append_assoc, append-nil, arith}
use Rattle.std.proofs.lemmas.Bool.{cond_both, cond-true, cond-false, and_left, or_from, ne_eqb}
use Rattle.frames.specs.Finding.{Found, frame, dropped}
use Rattle.frames.specs.declared.finding.Cause.TheVariants.{Length, End, Check}
use Rattle.station.specs.Commands.{request_cause, is_answer, lawful_answer}
use Rattle.station.specs.Inquiries.{Stage, waiting, due, acknowledging, answering, receiving, ended, Inquiry, Frame, written, own_frame, is_due}
use Rattle.station.specs.Exchange.{hear, hear_all, tick, opened, counted, reply, ack, nak, error, is, control_cmd}
use Rattle.station.specs.Stations.{has_space, put, replies, due_frame}
use Rattle.station.specs.Promises.{all_written, is_control, requests}
use Rattle.station.proofs.Turns.{moved}
use Rattle.station.proofs.Hearing.{FailsAt, again, gives_up, after_cases, Hears, same, acknowledged, refused, cut_off, goes_by_radio, gets_answer, gets_radio, hear_cases}

-- no more copies than attempts
abbrev pub Counted : Stage → ℕ → Type 0
Counted waiting n = n ≤ 0
Counted (due k) n = (n + 1 ≤ k) × (k ≤ 4)
Counted (acknowledging k left) n = (n ≤ k) × (k ≤ 4)
Counted (answering left) n = n ≤ 4
Counted (receiving left) n = n ≤ 4
Counted (ended e) n = n ≤ 4

pub at_most_four : (now : Stage) (n : ℕ) → Counted now n → n ≤ 4
at_most_four waiting n c = omega (arith, c)
at_most_four (due k) n c = omega (arith, c.0, c.1)
at_most_four (acknowledging k left) n c = omega (arith, c.0, c.1)
at_most_four (answering left) n c = c
at_most_four (receiving left) n c = c
at_most_four (ended e) n c = c

fails_counted : (k n : ℕ) {now : Stage} → FailsAt k now → n ≤ k → k ≤ 4 → Counted now n
fails_counted k n (again lt e) c d = subst (λ s. Counted s n) (sym e) (omega (arith, c), omega (arith, lt))
fails_counted k n (gives_up f e) c d = subst (λ s. Counted s n) (sym e) (omega (arith, c, d))

heard_counted : {q : Inquiry} {v : Found} {now later : Stage} (n : ℕ) → Hears q v now later → Counted now n → Counted later n
heard_counted {now = now} n (same e) c = subst (λ s. Counted s n) (sym e) c
heard_counted {now = now} n (acknowledged k left e some f) c = subst (λ s. Counted s n) (sym f) (at_most_four now n c)
heard_counted n (refused k left e some f g) c = let here = subst (λ s. Counted s n) e c in fails_counted k n f here.0 here.1
heard_counted {now = now} n (cut_off k left e some f) c = subst (λ s. Counted s n) (sym f) (at_most_four now n c)
heard_counted {now = now} n (goes_by_radio left e is f) c = subst (λ s. Counted s n) (sym f) (at_most_four now n c)
heard_counted {now = now} n (gets_answer left x d e is answers lawful apart f) c = subst (λ s. Counted s n) (sym f) (at_most_four now n c)
heard_counted {now = now} n (gets_radio left x d e is answers lawful from f) c = subst (λ s. Counted s n) (sym f) (at_most_four now n c)

hear_all_counted : (q : Inquiry) (fs : List (ℕ × Found)) (now : Stage) (n : ℕ) → Counted now n → Counted (hear_all q fs now) n
hear_all_counted q [] now n c = c
hear_all_counted q ((place, v) ∷ fs) now n c = hear_all_counted q fs (hear q v now) n (heard_counted n (hear_cases q v now) c)

tick_counted : (n : ℕ) (now : Stage) → Counted now n → Counted (tick n now) n
tick_counted n waiting c = c
tick_counted n (due k) c = c
tick_counted n (acknowledging k left) c = cond_both (leb left 1) _ _ (λ s. Counted s n) (λ e. fails_counted k n (after_cases n k) c.0 c.1) (λ e. c)
tick_counted n (answering left) c = cond_both (leb left 1) _ _ (λ s. Counted s n) (λ e. c) (λ e. c)
tick_counted n (receiving left) c = cond_both (leb left 1) _ _ (λ s. Counted s n) (λ e. c) (λ e. c)
tick_counted n (ended e) c = c

pub moved_counted : (fs : List (ℕ × Found)) (q : Inquiry) → Counted q.stage q.copies → Counted (moved fs q).stage q.copies
moved_counted fs q c = tick_counted q.copies (hear_all q fs q.stage) (hear_all_counted q fs q.stage q.copies c)

-- an attempt counts its copy
pub attempt_counted : (b : Bool) (now : Stage) (n : ℕ) → Counted now n → Counted (opened now) (counted b now n)
attempt_counted b waiting n c = c
attempt_counted b (due k) n c = cond_both b _ _ (λ m. (m ≤ k) × (k ≤ 4)) (λ e. c) (λ e. (omega (arith, c.0), c.1))
attempt_counted b (acknowledging k left) n c = c
attempt_counted b (answering left) n c = c
attempt_counted b (receiving left) n c = c
attempt_counted b (ended e) n c = c

-- the request that a pulse puts
abbrev pub sent_now : ℕ → List ℕ → Option Inquiry → List Frame
sent_now capacity outgoing None = []
sent_now capacity outgoing (Some q) = cond (has_space capacity outgoing (written (own_frame q))) (own_frame q ∷ []) []

pub put_sent : (capacity : ℕ) (outgoing : List ℕ) (attempt : Option Inquiry) → put capacity outgoing (due_frame attempt) ≡ outgoing ++ all_written (sent_now capacity outgoing attempt)
put_sent capacity outgoing None = sym (append-nil outgoing)
put_sent capacity outgoing (Some q) =
    cond_both (has_space capacity outgoing (written (own_frame q))) _ _ (λ l. put capacity outgoing (Some (own_frame q)) ≡ outgoing ++ all_written l)
    (λ e. cond-true _ _ _ e ∙ ap (λ l. outgoing ++ l) (sym (append-nil (written (own_frame q))))) (λ e. cond-false _ _ _ e ∙ sym (append-nil outgoing))

pub written_join : (xs ys : List Frame) → all_written (xs ++ ys) ≡ all_written xs ++ all_written ys
written_join [] ys = refl
written_join (x ∷ xs) ys = ap (λ l. written x ++ l) (written_join xs ys) ∙ sym (append_assoc (written x) (all_written xs) (all_written ys))

pub requests_join : (xs ys : List Frame) → requests (xs ++ ys) ≡ requests xs ++ requests ys
requests_join [] ys = refl
requests_join (x ∷ xs) ys =
    cond_both (is_control x) _ _ (λ l. requests ((x ∷ xs) ++ ys) ≡ l ++ requests ys)
    (λ e. cond-true _ _ _ e ∙ requests_join xs ys) (λ e. cond-false _ _ _ e ∙ ap (λ l. x ∷ l) (requests_join xs ys))

-- a reply is ACK, NAK or ERROR
data Replied (o : Option Frame) : Type 0 where
  silent : o ≡ None → Replied o
  control : (f : Frame) → o ≡ Some f → is_control f ≡ true → Replied o

reply_control : (v : Found) → Replied (reply v)
reply_control (dropped Length n) = silent refl
reply_control (dropped End n) = control nak refl refl
reply_control (dropped Check n) = control nak refl refl
reply_control (frame c d) =
    cond_both (control_cmd c) _ _ Replied (λ e. silent refl)
    (λ e. cond_both (is_answer c) _ _ Replied
    (λ f. cond_both (lawful_answer c d) _ _ Replied (λ g. control ack refl refl) (λ g. control nak refl refl))
    (λ f. control error refl refl))

put_reply : (capacity : ℕ) (outgoing : List ℕ) (o : Option Frame) → Replied o → (fs : List Frame) × (put capacity outgoing o ≡ outgoing ++ all_written fs) × (requests fs ≡ [])
put_reply capacity outgoing o (silent e) = ([], ap (put capacity outgoing) e ∙ sym (append-nil outgoing), refl)
put_reply capacity outgoing o (control f e is) =
    subst (λ x. (fs : List Frame) × (put capacity outgoing x ≡ outgoing ++ all_written fs) × (requests fs ≡ [])) (sym e)
    (cond_both (has_space capacity outgoing (written f)) _ _ (λ l. (fs : List Frame) × (l ≡ outgoing ++ all_written fs) × (requests fs ≡ []))
    (λ t. (f ∷ [], ap (λ l. outgoing ++ l) (sym (append-nil (written f))), cond-true _ _ _ is)) (λ t. ([], sym (append-nil outgoing), refl)))

-- the replies of a pulse are whole frames, and none of them a request
pub replies_control : (capacity : ℕ) (findings : List (ℕ × Found)) (outgoing : List ℕ)
    → (fs : List Frame) × (replies capacity findings outgoing ≡ outgoing ++ all_written fs) × (requests fs ≡ [])
replies_control capacity [] outgoing = ([], sym (append-nil outgoing), refl)
replies_control capacity ((place, v) ∷ more) outgoing =
    let one = put_reply capacity outgoing (reply v) (reply_control v) in
    let rest = replies_control capacity more (put capacity outgoing (reply v)) in (
      one.0 ++ rest.0,
      rest.1 ∙ ap (λ l. l ++ all_written rest.0) one.1 ∙ append_assoc outgoing (all_written one.0) (all_written rest.0) ∙ ap (λ l. outgoing ++ l) (sym (written_join one.0 rest.0)),
      requests_join one.0 rest.0 ∙ (λ i. one.2 i ++ rest.2 i),
    )

-- a request's frame is none of the three
apart_from : (c n m : ℕ) → request_cause c n ≡ None → (request_cause m n ≡ None → ⊥) → eqb m c ≡ false
apart_from c n m lodged never = ne_eqb m c (λ e. never (ap (λ x. request_cause x n) e ∙ lodged))

pub request_plain : (c : ℕ) (d : List ℕ) → request_cause c (length d) ≡ None → is_control (record { cmd = c; body = d }) ≡ false
request_plain c d lodged =
    or_from _ _ (and_left _ _ (apart_from c (length d) 0x06 lodged (λ e. let z : ◌≡◌ {A = ℕ} 0 1 = cc in omega arith)))
    (or_from _ _ (and_left _ _ (apart_from c (length d) 0x15 lodged (λ e. let z : ◌≡◌ {A = ℕ} 0 1 = cc in omega arith)))
    (and_left _ _ (apart_from c (length d) 0x00 lodged (λ e. let z : ◌≡◌ {A = ℕ} 0 1 = cc in omega arith))))

-- an attempt that puts its frame adds one copy
pub copies_more : (capacity : ℕ) (outgoing : List ℕ) (q : Inquiry) (now : Stage)
    → replicate (counted (has_space capacity outgoing (written (own_frame q))) now q.copies) (own_frame q)
    ≡ replicate q.copies (own_frame q) ++ sent_now capacity outgoing (cond (is_due now) (Some q) None)
copies_more capacity outgoing q waiting = sym (append-nil (replicate q.copies (own_frame q)))
copies_more capacity outgoing q (acknowledging k left) = sym (append-nil (replicate q.copies (own_frame q)))
copies_more capacity outgoing q (answering left) = sym (append-nil (replicate q.copies (own_frame q)))
copies_more capacity outgoing q (receiving left) = sym (append-nil (replicate q.copies (own_frame q)))
copies_more capacity outgoing q (ended e) = sym (append-nil (replicate q.copies (own_frame q)))
copies_more capacity outgoing q (due k) =
    cond_both (has_space capacity outgoing (written (own_frame q))) _ _
    (λ l. replicate (cond (has_space capacity outgoing (written (own_frame q))) (q.copies + 1) q.copies) (own_frame q) ≡ replicate q.copies (own_frame q) ++ l)
    (λ e. ap (λ m. replicate m (own_frame q)) (cond-true _ _ _ e) ∙ sym (replicate-append-replicate q.copies 1 (own_frame q)))
    (λ e. ap (λ m. replicate m (own_frame q)) (cond-false _ _ _ e) ∙ sym (append-nil (replicate q.copies (own_frame q))))
