-- The first inquiry whose stage passes a test: what it is, and what changing it alone comes to.
use Rattle.std.proofs.Common.{◌≡◌, ℕ, Bool, true, cond, List, [], ◌∷◌, Some, None, sym, refl, ap, ◌∙◌, subst, arith}
use Rattle.std.proofs.lemmas.Bool.{cond_both, cond-true, cond-false}
use Rattle.lines.specs.Meaning.{Meaning}
use Rattle.station.specs.Inquiries.{Stage, Inquiry, own_frame, written, is_due}
use Rattle.station.specs.Exchange.{attempted}
use Rattle.station.specs.Stations.{change, first, has_space, due_frame, put}
use Rattle.station.specs.Putting.{PutsIf}
use Rattle.station.specs.Steps.{Tries}
use Rattle.station.specs.Tables.{Attempts}

module _ (test : Stage → Bool) where
  -- Where none passes, nothing changes.
  pub none_changes : (f : Inquiry → Inquiry) (qs : List Inquiry) → first test qs ≡ None → qs ≡ change test f qs
  none_changes f [] e = refl
  none_changes f (x ∷ qs) e =
      cond_both (test x.stage) (Some x) (first test qs) (λ o. o ≡ None → x ∷ qs ≡ cond (test x.stage) (f x ∷ qs) (x ∷ change test f qs))
      (λ t is. absurd (let z : ◌≡◌ {A = ℕ} 0 1 = cc in omega arith))
      (λ t is. ap (λ l. x ∷ l) (none_changes f qs is) ∙ sym (cond-false (test x.stage) (f x ∷ qs) (x ∷ change test f qs) t))
      e

  -- The first is changed as it is replaced.
  pub as_replaced : (f : Inquiry → Inquiry) (q now : Inquiry) (qs : List Inquiry) → first test qs ≡ Some q → now ≡ f q → change test (λ x. now) qs ≡ change test f qs
  as_replaced f q now [] e made = refl
  as_replaced f q now (x ∷ qs) e made =
      cond_both (test x.stage) (Some x) (first test qs) (λ o. o ≡ Some q → change test (λ x. now) (x ∷ qs) ≡ change test f (x ∷ qs))
      (λ t is. let same : q ≡ x = cc in cond-true _ _ _ t ∙ ap (λ n. n ∷ qs) (made ∙ ap f same) ∙ sym (cond-true (test x.stage) (f x ∷ qs) (x ∷ change test f qs) t))
      (λ t is. cond-false _ _ _ t ∙ ap (λ l. x ∷ l) (as_replaced f q now qs is made) ∙ sym (cond-false (test x.stage) (f x ∷ qs) (x ∷ change test f qs) t))
      e

  -- The first passes.
  pub first_passes : (q : Inquiry) (qs : List Inquiry) → first test qs ≡ Some q → test q.stage ≡ true
  first_passes q [] e = absurd (let z : ◌≡◌ {A = ℕ} 0 1 = cc in omega arith)
  first_passes q (x ∷ qs) e =
      cond_both (test x.stage) (Some x) (first test qs) (λ o. o ≡ Some q → test q.stage ≡ true)
      (λ t is. let same : q ≡ x = cc in ap (λ n. test n.stage) same ∙ t) (λ t is. first_passes q qs is) e

-- The attempt that is due is made, and no other.
pub attempt_made : (qs : List Inquiry) (line : Meaning) (was now : Inquiry) (line_after : Meaning) → first is_due qs ≡ Some was → Tries was now line line_after
    → Attempts qs (change is_due (λ x. now) qs) line line_after
attempt_made qs line was now line_after at tries =
    let due = cond-true (is_due was.stage) (Some (own_frame was)) None (first_passes is_due was qs at) in
    record {
      places = as_replaced is_due (λ q. attempted (has_space line.capacity line.outgoing (written (own_frame q))) q) was now qs at tries.inquiry;
      puts = subst (λ o. PutsIf o line line_after) (due ∙ ap due_frame (sym at)) tries.puts;
    }

pub none_due : (qs : List Inquiry) (line : Meaning) → first is_due qs ≡ None → Attempts qs qs line line
none_due qs line none =
    record {
      places = none_changes is_due (λ q. attempted (has_space line.capacity line.outgoing (written (own_frame q))) q) qs none;
      puts = record { outgoing = ap (λ o. put line.capacity line.outgoing (due_frame o)) (sym none); waiting = refl; capacity = refl };
    }
