-- The form of a route: how long it is, what stands at a place, and how it grows by an address.
use Rattle.std.proofs.Common.{◌≡◌, ℕ, zero, suc, ◌+◌, ◌*◌, ◌/◌, ◌%◌, ◌<◌, ◌≤◌, ltb, List, [], ◌∷◌, length, get_or, Some, None, sym, ap, ◌∙◌, ⊎_elim, mod-lt, zero-add, arith}
use native.Mathlib.Nat.{div-add-mod}
use Rattle.std.specs.List.{flat_map, slice_get}
use Rattle.std.proofs.lemmas.Option.{slice_get-get_or, slice_get_cases}
use Rattle.std.proofs.lemmas.List.{get_or_append_left, get_or-append-add}
use Rattle.std.proofs.lemmas.Bool.{lt-ltb, le-ltb, cond-true, cond-false}
use Rattle.parameters.specs.declared.route.Address.{Address}
use Rattle.parameters.specs.Values.{byte_at}
use Rattle.parameters.specs.Routes.{address_bytes, route_form}
use Rattle.parameters.specs.Tables.{joined_length}

-- A place within a value has a byte.
pub byte_within : (value : List ℕ) (place : ℕ) → place < length value → byte_at value place ≡ Some (get_or value place 0)
byte_within value place within = cond-true (ltb place (length value)) _ _ (lt-ltb place (length value) within)

-- A place past a value has none.
pub byte_past : (value : List ℕ) (place : ℕ) → length value ≤ place → byte_at value place ≡ None
byte_past value place past = cond-false (ltb place (length value)) _ _ (le-ltb place (length value) past)

-- So the byte at a place is what the list has there.
pub byte_got : (value : List ℕ) (place : ℕ) → slice_get value place ≡ byte_at value place
byte_got value place =
    ⊎_elim (λ found. slice_get-get_or value place 0 found.1 ∙ sym (byte_within value place found.1))
    (λ past. past.1 ∙ sym (byte_past value place past.0)) (slice_get_cases value place).1

-- A byte of the addresses is a byte of one of them.
joined_byte : (addresses : List Address) (i j : ℕ) (d : Address) → i < length addresses → j < 6
    → get_or (flat_map address_bytes addresses) (6 * i + j) 0 ≡ get_or (address_bytes (get_or addresses i d)) j 0
joined_byte [] i j d within six = absurd (omega arith)
joined_byte (a ∷ rest) zero j d within six =
    rw zero-add (get_or_append_left (address_bytes a) (flat_map address_bytes rest) 0 j six)
joined_byte (a ∷ rest) (suc i) j d within six =
    let further : 6 * suc i + j ≡ 6 + (6 * i + j) = omega arith in
    ap (λ n. get_or (flat_map address_bytes (a ∷ rest)) n 0) further
    ∙ get_or-append-add (address_bytes a) (flat_map address_bytes rest) (6 * i + j) 0
    ∙ joined_byte rest i j d (omega arith) six

-- A byte behind the count is the byte of the address in which it lies.
pub byte_behind : (addresses : List Address) (a : Address) (k : ℕ)
    → k / 6 < length addresses → a ≡ get_or addresses (k / 6) a
    → byte_at (address_bytes a) (k % 6) ≡ byte_at (route_form addresses) (suc k)
byte_behind addresses a k within at =
    let six : k % 6 < 6 = mod-lt k (omega arith) in
    let parts = div-add-mod k 6 in
    let inside : suc k < length (route_form addresses) = omega (arith, joined_length addresses, parts, six) in
    byte_within (address_bytes a) (k % 6) six
    ∙ ap Some (ap (λ x. get_or (address_bytes x) (k % 6) 0) at ∙ sym (joined_byte addresses (k / 6) (k % 6) a within six)
    ∙ ap (λ n. get_or (flat_map address_bytes addresses) n 0) parts)
    ∙ sym (byte_within (route_form addresses) (suc k) inside)

-- Behind the last address there is no byte.
pub none_behind : (addresses : List Address) (k : ℕ)
    → length addresses ≤ k / 6 → None ≡ byte_at (route_form addresses) (suc k)
none_behind addresses k past =
    let outside : length (route_form addresses) ≤ suc k = omega (arith, joined_length addresses, div-add-mod k 6) in
    sym (byte_past (route_form addresses) (suc k) outside)
