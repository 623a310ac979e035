-- One inquiry is under way at a time, whatever lodging, the steps of a pulse and collecting do.
use Rattle.std.proofs.Common.{◌≡◌, ℕ, true, false, eqb, List, [], ◌∷◌, ◌++◌, Some, None, Option, sym, refl, ap, ◌∙◌, arith}
use Rattle.std.proofs.lemmas.Bool.{cond_both, cond-false}
use Rattle.station.specs.Inquiries.{Stage, waiting, due, acknowledging, answering, receiving, ended, Inquiry, under_way, waits_still, is_due}
use Rattle.station.specs.Exchange.{begun}
use Rattle.station.specs.Stations.{change, first, begins, begins_unless, without}
use Rattle.station.specs.Tables.{OneAtATime}
use Rattle.station.proofs.Turns.{clash}

-- Where none of a list is under way, neither its first nor any behind is.
none_first : (q : Inquiry) (qs : List Inquiry) → first under_way (q ∷ qs) ≡ None → (under_way q.stage ≡ false) × (first under_way qs ≡ None)
none_first q qs e =
    cond_both (under_way q.stage) (Some q) (first under_way qs) (λ o. o ≡ None → (under_way q.stage ≡ false) × (first under_way qs ≡ None))
    (λ t is. absurd (let z : ◌≡◌ {A = ℕ} 0 1 = cc in omega arith)) (λ t is. (t, is)) e

none_alone : (qs : List Inquiry) → first under_way qs ≡ None → OneAtATime qs
none_alone [] e = tt
none_alone (q ∷ qs) e = let both = none_first q qs e in (λ t. both.1, none_alone qs both.1)

-- Changing the one under way leaves none other under way.
pub change_alone : (f : Inquiry → Inquiry) (qs : List Inquiry) → OneAtATime qs → OneAtATime (change under_way f qs)
change_alone f [] a = tt
change_alone f (q ∷ qs) a =
    cond_both (under_way q.stage) (f q ∷ qs) (q ∷ change under_way f qs) OneAtATime
    (λ t. (λ u. a.0 t, a.1)) (λ t. (λ u. clash (sym t ∙ u), change_alone f qs a.1))

-- Where none is under way, one that waits may begin.
oldest_alone : (qs : List Inquiry) → first under_way qs ≡ None → OneAtATime (change waits_still begun qs)
oldest_alone [] e = tt
oldest_alone (q ∷ qs) e =
    let both = none_first q qs e in
    cond_both (waits_still q.stage) (begun q ∷ qs) (q ∷ change waits_still begun qs) OneAtATime
    (λ t. (λ u. both.1, none_alone qs both.1)) (λ t. (λ u. clash (sym both.0 ∙ u), oldest_alone qs both.1))

pub begins_alone : (qs : List Inquiry) → OneAtATime qs → OneAtATime (begins qs)
begins_alone qs a = by (first under_way qs) refl
  where
    by : (o : Option Inquiry) → first under_way qs ≡ o → OneAtATime (begins_unless o qs)
    by None e = oldest_alone qs e
    by (Some q) e = a

-- An attempt that is due is one of the inquiry under way.
due_under_way : (s : Stage) → is_due s ≡ true → under_way s ≡ true
due_under_way waiting e = e
due_under_way (due k) e = e
due_under_way (acknowledging k left) e = refl
due_under_way (answering left) e = refl
due_under_way (receiving left) e = refl
due_under_way (ended x) e = e

none_due : (f : Inquiry → Inquiry) (qs : List Inquiry) → first under_way qs ≡ None → change is_due f qs ≡ qs
none_due f [] e = refl
none_due f (q ∷ qs) e =
    let both = none_first q qs e in
    cond_both (is_due q.stage) (f q ∷ qs) (q ∷ change is_due f qs) (λ l. l ≡ q ∷ qs)
    (λ t. clash (sym both.0 ∙ due_under_way q.stage t)) (λ t. ap (λ l. q ∷ l) (none_due f qs both.1))

pub attempts_alone : (f : Inquiry → Inquiry) (qs : List Inquiry) → OneAtATime qs → OneAtATime (change is_due f qs)
attempts_alone f [] a = tt
attempts_alone f (q ∷ qs) a =
    cond_both (is_due q.stage) (f q ∷ qs) (q ∷ change is_due f qs) OneAtATime
    (λ t. (λ u. a.0 (due_under_way q.stage t), a.1))
    (λ t. (λ u. ap (first under_way) (none_due f qs (a.0 u)) ∙ a.0 u, attempts_alone f qs a.1))

-- One that waits may join at the end.
none_joins : (qs : List Inquiry) (q : Inquiry) → first under_way qs ≡ None → under_way q.stage ≡ false → first under_way (qs ++ (q ∷ [])) ≡ None
none_joins [] q e w = cond-false (under_way q.stage) (Some q) None w
none_joins (x ∷ qs) q e w = let both = none_first x qs e in cond-false (under_way x.stage) (Some x) (first under_way (qs ++ (q ∷ []))) both.0 ∙ none_joins qs q both.1 w

pub joins_alone : (qs : List Inquiry) (q : Inquiry) → under_way q.stage ≡ false → OneAtATime qs → OneAtATime (qs ++ (q ∷ []))
joins_alone [] q w a = (λ u. refl, tt)
joins_alone (x ∷ qs) q w a = (λ u. none_joins qs q (a.0 u) w, joins_alone qs q w a.1)

-- One may leave.
none_leaves : (n : ℕ) (qs : List Inquiry) → first under_way qs ≡ None → first under_way (without n qs) ≡ None
none_leaves n [] e = refl
none_leaves n (x ∷ qs) e =
    let both = none_first x qs e in
    cond_both (eqb x.number n) qs (x ∷ without n qs) (λ l. first under_way l ≡ None)
    (λ t. both.1) (λ t. cond-false (under_way x.stage) (Some x) (first under_way (without n qs)) both.0 ∙ none_leaves n qs both.1)

pub leaves_alone : (n : ℕ) (qs : List Inquiry) → OneAtATime qs → OneAtATime (without n qs)
leaves_alone n [] a = tt
leaves_alone n (x ∷ qs) a =
    cond_both (eqb x.number n) qs (x ∷ without n qs) OneAtATime (λ t. a.1) (λ t. (λ u. none_leaves n qs (a.0 u), leaves_alone n qs a.1))
