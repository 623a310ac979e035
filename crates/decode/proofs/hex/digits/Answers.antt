use Rattle.std.proofs.Common.{◌≡◌, ℕ, ◌/◌, ◌%◌, ◌<◌, List, [], ◌∷◌, map, get_or, refl, ap, ◌∙◌, rules, arith}
use Rattle.std.specs.List.{range_with_len}
use Rattle.std.proofs.lemmas.List.FromFn.{get_or-map-range_with_len}
use Rattle.decode.specs.Hex.{hex_digit}
use Rattle.decode.proofs.hex.digits.Goals as goal

-- a table of the sixteen digits
digit_at : (table : List ℕ) → table ≡ map hex_digit (range_with_len 0 16) → (n : ℕ) → n < 16 → get_or table n 0 ≡ hex_digit n
digit_at table rule n small = ap (λ t. get_or t n 0) rule ∙ get_or-map-range_with_len hex_digit 0 16 n n 0 small (omega arith)

pub returns : goal.returns
returns c = λ i. digit_at _ refl (c.args.byte / 16) (search rules) i ∷ (digit_at _ refl (c.args.byte % 16) (search rules) i ∷ [])
