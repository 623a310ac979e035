-- Taking bytes from a line until none is left or a pulse takes no more.
use Rattle.std.proofs.Common.{◌≡◌, ℕ, ◌≤◌, List, [], ◌++◌, length, take, drop, sym, ap, ◌∙◌, append-nil, arith}
use Rattle.std.proofs.lemmas.List.{take_at, take_all, drop_at, drop_all}
use Rattle.lines.specs.Meaning.{Meaning}
use Rattle.station.specs.Stations.{taken, left_waiting}
use Rattle.station.specs.Intakes.{Drained}

-- The bytes taken so far, and those still waiting, are what waited; the rest of the line is as it was.
pub record SoFar (line : Meaning) (got : List ℕ) (now : Meaning) : Type 0 where
  pub moved : got ++ now.waiting ≡ line.waiting
  pub few : length got ≤ 300
  pub outgoing : now.outgoing ≡ line.outgoing
  pub capacity : now.capacity ≡ line.capacity

module _ (line : Meaning) (got : List ℕ) (now : Meaning) (so : SoFar line got now) where
  -- none is left
  pub all_taken : (after : Meaning) → now.waiting ≡ [] → after.waiting ≡ [] → after.outgoing ≡ now.outgoing → after.capacity ≡ now.capacity → (got ≡ taken line) × Drained line after
  unfolding taken left_waiting
  all_taken after none none_after out cap =
      let all : got ≡ line.waiting = sym (append-nil got) ∙ ap (λ l. got ++ l) (sym none) ∙ so.moved in
      let few : length line.waiting ≤ 300 = omega (arith, so.few, ap length all) in (
        all ∙ sym (take_all 300 line.waiting few),
        record { waiting = none_after ∙ sym (drop_all 300 line.waiting few); outgoing = out ∙ so.outgoing; capacity = cap ∙ so.capacity },
      )

  -- as many were taken as a pulse takes
  pub most_taken : length got ≡ 300 → (got ≡ taken line) × Drained line now
  unfolding taken left_waiting
  most_taken full = (
    sym (take_at got now.waiting 300 full) ∙ ap (take 300) so.moved,
    record { waiting = sym (drop_at got now.waiting 300 full) ∙ ap (drop 300) so.moved; outgoing = so.outgoing; capacity = so.capacity },
  )
