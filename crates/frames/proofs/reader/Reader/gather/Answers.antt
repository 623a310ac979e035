use Rattle.std.proofs.Common.{◌<◌, ◌≡◌, ◌+◌, ◌-◌, ◌++◌, length, take, [], Some, sym, refl, ap, ◌∙◌, subst, arith, length-append, rules}
use native.Mathlib.Nat.{sub-zero}
use borrow.Rule.Slice.PartMut.{put_mid}
use Rattle.std.proofs.lemmas.List.{places, length-take-le}
use Rattle.std.proofs.lemmas.Slice.{take-put_mid}
use Rattle.frames.specs.declared.reader.Stage.TheVariants.{Body}
use Rattle.std.proofs.lemmas.List.Elements.{All-take}
use Rattle.frames.proofs.ByteLists.{Bytes, bytes_told, bytes_put}
use Rattle.frames.proofs.Gathering.{held_behind, gathers_held, gathers_all, judged_as, reads_at}
use Rattle.frames.proofs.Stages.{hunts, gathers}
use Rattle.frames.proofs.reader.Reader.gather.Goals as goal

pub invariant_of-self : goal.invariant_of-self
invariant_of-self c =
    let r = c.args.self.now in
    let small : Bytes c.copy_from_slice.new.self = subst Bytes (sym c.copy_from_slice.ensures.after) (bytes_told c.args.stretch.now (λ i. omega (arith, c.type_inv.stretch i))) in
    record {
      «open» = gathers c.args.length _ (r.«open» c.args.length c.args.got c.requires).0 (omega arith);
      whole = search (rules, places);
      bytes = bytes_put _ _ r.body _ r.bytes small;
    }

pub returns-then-stretch-missing : goal.returns-then-stretch-missing
returns-then-stretch-missing c =
    let r = c.args.self.now in
    let got = c.args.got in
    let end = got + length c.args.stretch.now in
    let copied = c.copy_from_slice.ensures.after in
    let put = take-put_mid got (end - got) r.body c.copy_from_slice.new.self end (ap (λ l. got + length l) (sym copied)) (omega (arith, (r.«open» c.args.length got c.requires).0.1)) in
    (refl, gathers_held r c.args.length got c.args.stretch.now _ c.requires (omega arith) (put ∙ ap (λ l. take got r.body ++ l) copied))

pub returns-then-got-eq0 : goal.returns-then-got-eq0
returns-then-got-eq0 c =
    let r = c.args.self.now in
    let n = c.args.length in
    let s = c.args.stretch.now in
    let fits = r.«open» n c.args.got c.requires in
    let missing = n - c.args.got in
    let judged = judged_as n (take (missing - 0) s) (take c.args.got r.body ++ take missing s) _ c.judge.ensures
    (length-take-le (missing - 0) s (omega arith) ∙ (let m : missing - 0 ≡ n = omega arith in m))
    (ap (λ k. take k s) (sub-zero missing) ∙ ap (λ k. take k r.body ++ take missing s) (sym c.if-got-eq0.true)) in
    reads_at r (Body n c.args.got) s [] (Some _) missing c.requires (gathers_all n (take c.args.got r.body) s fits.0 missing _ (omega (arith, held_behind r n c.args.got c.requires, fits.1)) c.if-stretch-missing.false judged)

pub invariant_of-self-2 : goal.invariant_of-self-2
invariant_of-self-2 c =
    let r = c.args.self.now in
    let small : Bytes c.copy_from_slice-2.new.self = subst Bytes (sym c.copy_from_slice-2.ensures.after) (All-take (λ b. b < 256) _ c.args.stretch.now (bytes_told c.args.stretch.now (λ i. omega (arith, c.type_inv.stretch i)))) in
    record { «open» = hunts; whole = search (rules, places); bytes = bytes_put _ _ r.body _ r.bytes small }

pub returns : goal.returns
returns c =
    let r = c.args.self.now in
    let n = c.args.length in
    let got = c.args.got in
    let s = c.args.stretch.now in
    let fits = r.«open» n got c.requires in
    let missing = n - got in
    let copied = c.copy_from_slice-2.ensures.after ∙ ap (λ k. take k s) (sub-zero missing) in
    let held = held_behind r n got c.requires in
    let long = length-take-le missing s c.if-stretch-missing.false in
    let put = take-put_mid got missing r.body c.copy_from_slice-2.new.self n
    (let m : n ≡ got + missing = omega (arith, fits.1) in m ∙ ap (λ k. got + k) (sym (ap length copied ∙ long))) (omega (arith, fits.0.1)) in
    let whole = ap (λ k. take k (put_mid got missing r.body c.copy_from_slice-2.new.self)) (sub-zero n) ∙ put ∙ ap (λ l. take got r.body ++ l) copied in
    let judged = judged_as n (take (n - 0) (put_mid got missing r.body c.copy_from_slice-2.new.self)) (take got r.body ++ take missing s) _ c.judge-2.ensures
    (ap length whole ∙ omega (arith, length-append (take got r.body) (take missing s), long, held, fits.1))
    whole in
    reads_at r (Body n got) s [] (Some _) missing c.requires (gathers_all n (take got r.body) s fits.0 missing _ (omega (arith, held, fits.1)) c.if-stretch-missing.false judged)
