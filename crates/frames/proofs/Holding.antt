-- What a reader holds is always the start of a candidate.
use Rattle.std.proofs.Common.{◌<◌, ◌≡◌, ℕ, List, [], ◌∷◌, ◌++◌, take, sym, refl, subst, append-nil, arith}
use Rattle.std.proofs.lemmas.List.{length-take}
use Rattle.frames.specs.declared.reader.Reader.{Reader}
use Rattle.frames.specs.declared.reader.Stage.{Stage}
use Rattle.frames.specs.declared.reader.Stage.TheVariants.{Hunting, Sync, Start, Body}
use Rattle.std.proofs.lemmas.List.Elements.{All-nil, All-cons, All-take}
use Rattle.frames.proofs.ByteLists.{Bytes}
use Rattle.frames.specs.Finding.{Begun, none, sync, start, part, Waits}
use Rattle.frames.specs.Reading.{begun, holds}
use Rattle.frames.specs.Stages.{Unfinished}

begun_at : (stage : Stage) (body : List ℕ) → Unfinished stage → Begun (begun stage body)
begun_at Hunting body u = none refl
begun_at Sync body u = sync refl
begun_at Start body u = start refl
begun_at (Body n got) body u = part n (take got body) refl (u n got refl).0 (simp length-take (omega (arith, (u n got refl).1)))

pub begun_held : (r : Reader) → Begun (holds r)
begun_held r = begun_at r.stage r.body r.«open»

-- what is held waits for more
pub waits_held : {held : List ℕ} → Begun held → Waits held held
waits_held b = record { noise = []; split = refl; quiet = tt; settled = λ none. tt; begun = b }

pub still : (r : Reader) → Waits (holds r ++ []) (holds r)
still r = rw (append-nil (holds r)) (waits_held (begun_held r))

-- what waits behind what is held, once the stage is known
pub waits_at : (r : Reader) (s : Stage) (more after : List ℕ) → r.stage ≡ s → Waits (begun s r.body ++ more) after → Waits (holds r ++ more) after
waits_at r s more after e w = subst (λ t. Waits (begun t r.body ++ more) after) (sym e) w

with_byte : (b : ℕ) (bs : List ℕ) → b < 256 → Bytes bs → Bytes (b ∷ bs)
with_byte = All-cons (λ b. b < 256)

bytes_at : (stage : Stage) (body : List ℕ) → Unfinished stage → Bytes body → Bytes (begun stage body)
bytes_at Hunting body u b = All-nil (λ b. b < 256)
bytes_at Sync body u b = with_byte 0xFF [] (omega arith) (All-nil (λ b. b < 256))
bytes_at Start body u b = with_byte 0xFF (0x02 ∷ []) (omega arith) (with_byte 0x02 [] (omega arith) (All-nil (λ b. b < 256)))
bytes_at (Body n got) body u b =
    let held = take got body in
    with_byte 0xFF (0x02 ∷ (n ∷ held)) (omega arith) (with_byte 0x02 (n ∷ held) (omega arith) (with_byte n held (omega (arith, (u n got refl).0.1)) (All-take (λ b. b < 256) got body b)))

-- what is held are bytes
pub bytes_held : (r : Reader) → Bytes (holds r)
bytes_held r = bytes_at r.stage r.body r.«open» r.bytes
