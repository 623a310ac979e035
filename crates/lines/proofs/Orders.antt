-- The bytes of a wire keep their order through every list of calls.
use Rattle.std.proofs.Common.{◌≡◌, ℕ, List, [], ◌∷◌, ◌++◌, Some, None, Ok, Err, Option, Result, option_to_list, sym, ap, ◌∙◌, append_assoc, append-nil}
use Rattle.lines.specs.declared.refusal.Refusal.{Refusal}
use Rattle.lines.specs.Queues.{FirstOut, AllIn}
use Rattle.lines.specs.Wires.{Wired}
use Rattle.lines.specs.Runs.{Event, takes, puts, brings, carries, Step, History, made, ◌▸◌, Run, accepted, all_bytes, brought_by, taken_by, put_by, carried_by, InOrder, GoesOn}

-- All bytes of one side: those that came out, and behind them those that are held.
record Side (all out held : List ℕ) : Type 0 where
  order : all ≡ out ++ held

-- A side that the call leaves alone.
stays : {all out before after : List ℕ} → Side all out before → after ≡ before → Side (all ++ []) (out ++ []) after
stays {all} {out} {before} {after} side kept =
    record { order = append-nil all ∙ side.order ∙ ap (λ held. out ++ held) (sym kept) ∙ ap (λ front. front ++ after) (sym (append-nil out)) }

-- Bytes that go in at the back.
goes_in : (size : ℕ) (bytes : List ℕ) (answer : Result (Unit {0}) Refusal) {all out before after : List ℕ} → Side all out before → AllIn size before bytes answer after → Side (all ++ accepted bytes answer) (out ++ []) after
goes_in size bytes (Ok _) {all} {out} {before} {after} side moves =
    record {
      order =
          ap (λ front. front ++ bytes) side.order
          ∙ append_assoc out before bytes
          ∙ ap (λ held. out ++ held) (sym moves.gained)
          ∙ ap (λ front. front ++ after) (sym (append-nil out));
    }
goes_in size bytes (Err _) side moves = stays side moves.kept

-- A byte that comes out at the front.
comes_out : (answer : Option ℕ) {all out before after : List ℕ} → Side all out before → FirstOut before answer after → Side (all ++ []) (out ++ option_to_list answer) after
comes_out (Some byte) {all} {out} {before} {after} side moves =
    record { order = append-nil all ∙ side.order ∙ ap (λ held. out ++ held) moves ∙ sym (append_assoc out (byte ∷ []) after) }
comes_out None side moves = stays side (moves.1 ∙ sym moves.0)

module _ {history : History} {before : Wired} (ordered : InOrder history before) where
  inward_side : Side (all_bytes brought_by history) (all_bytes taken_by history) before.near.waiting
  inward_side = record { order = ordered.inward }

  outward_side : Side (all_bytes put_by history) (all_bytes carried_by history) before.near.outgoing
  outward_side = record { order = ordered.outward }

-- Each call keeps both sides in order.
one_more : {history : History} {before after : Wired} (event : Event) → InOrder history before → Step before event after → InOrder (history ▸ event) after
one_more (takes answer) ordered step =
    record {
      inward = (comes_out answer (inward_side ordered) step.0.waiting_moves).order;
      outward = (stays (outward_side ordered) step.0.outgoing_kept).order;
    }
one_more {before = before} (puts bytes answer) ordered step =
    record {
      inward = (stays (inward_side ordered) step.0.waiting_kept).order;
      outward = (goes_in before.near.capacity bytes answer (outward_side ordered) step.0.outgoing_moves).order;
    }
one_more {before = before} (brings byte answer) ordered step =
    record {
      inward = (goes_in before.intake (byte ∷ []) answer (inward_side ordered) step.waiting_moves).order;
      outward = (stays (outward_side ordered) step.outgoing_kept).order;
    }
one_more (carries answer) ordered step =
    record {
      inward = (stays (inward_side ordered) step.waiting_kept).order;
      outward = (comes_out answer (outward_side ordered) step.outgoing_moves).order;
    }

-- Every run keeps the order.
pub in_order : (history : History) (wire : Wired) → Run history wire → InOrder history wire
in_order (made incoming outgoing) wire run = record { inward = sym (ap (λ w. w.near.waiting) run); outward = sym (ap (λ w. w.near.outgoing) run) }
in_order (history ▸ event) wire run = one_more event (in_order history run.0 run.1) run.2

-- A call as the rules have it goes on with every run.
pub goes_on : (before after : Wired) (event : Event) → Step before event after → GoesOn before event after
goes_on before after event step history run = ((before, run, step), in_order (history ▸ event) after (before, run, step))
