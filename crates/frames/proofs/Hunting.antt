-- What is held after a hunt through a stretch: the start of a candidate, a lone 0xFF, or nothing.
use Rattle.std.proofs.Common.{◌≡◌, ℕ, zero, suc, ◌+◌, ◌<◌, List, [], ◌∷◌, ◌++◌, length, get_or, take, sym, refl, ap, ◌∙◌, subst, append_assoc, append-nil, add-one, arith}
use Rattle.std.proofs.lemmas.List.{take_more, take_all}
use Rattle.frames.specs.Finding.{Quiet, none, sync, start, Waits}
use Rattle.frames.specs.Hunting.{Unmarked}

unmarked_rest : (a : ℕ) (bytes : List ℕ) (n : ℕ) → Unmarked (a ∷ bytes) (suc n) → Unmarked bytes n
unmarked_rest a bytes n u k h e f =
    u (suc k) (omega arith) e
    (subst (λ i. get_or (a ∷ bytes) i 0 ≡ 0x02) (sym (add-one (suc k))) (subst (λ i. get_or bytes i 0 ≡ 0x02) (add-one k) f))

quiet_take : (bytes : List ℕ) (n : ℕ) → Unmarked bytes n → Quiet (take n bytes)
quiet_take bytes zero u = tt
quiet_take [] (suc n) u = tt
quiet_take (a ∷ bytes) (suc zero) u = tt
quiet_take (a ∷ []) (suc (suc n)) u = tt
quiet_take (a ∷ b ∷ bytes) (suc (suc n)) u = (u 0 (omega arith), quiet_take (b ∷ bytes) (suc n) (unmarked_rest a (b ∷ bytes) (suc n) u))

-- no lone 0xFF at the end
quiet_end : (bytes : List ℕ) → Quiet bytes → ((n : ℕ) → n + 1 ≡ length bytes → get_or bytes n 0 ≡ 0xFF → ⊥) → Quiet (bytes ++ (0x02 ∷ []))
quiet_end [] q h = tt
quiet_end (a ∷ []) q h = (λ e f. h 0 refl e, tt)
quiet_end (a ∷ b ∷ bytes) q h = (q.0, quiet_end (b ∷ bytes) q.1 (λ n e f. h (suc n) (omega arith) f))

module _ (bytes : List ℕ) where
  -- the first 0xFF that is directly followed by 0x02 stands at n
  pub start_held : (n : ℕ) → n + 1 < length bytes → Unmarked bytes n → get_or bytes n 0 ≡ 0xFF → get_or bytes (n + 1) 0 ≡ 0x02
      → Waits (take (n + 2) bytes) (0xFF ∷ (0x02 ∷ []))
  start_held n within u e f = record {
    noise = take n bytes;
    split =
        ap (λ i. take i bytes) (let same : n + 2 ≡ n + 1 + 1 = omega arith in same)
        ∙ take_more bytes (n + 1) 0 within
        ∙ ap (λ l. l ++ (get_or bytes (n + 1) 0 ∷ [])) (take_more bytes n 0 (omega arith))
        ∙ append_assoc (take n bytes) (get_or bytes n 0 ∷ []) (get_or bytes (n + 1) 0 ∷ [])
        ∙ (λ i. take n bytes ++ (e i ∷ (f i ∷ [])));
    quiet = quiet_take bytes n u;
    settled = λ none. absurd (let z : ◌≡◌ {A = ℕ} 0 1 = cc in omega arith);
    begun = start refl;
  }

  -- no start, and the last byte is 0xFF
  pub sync_held : (n m : ℕ) → n ≡ m + 1 → n ≡ length bytes → Unmarked bytes n → get_or bytes m 0 ≡ 0xFF → Waits (take n bytes) (0xFF ∷ [])
  sync_held n m last all u e = record {
    noise = take m bytes;
    split = ap (λ i. take i bytes) last ∙ take_more bytes m 0 (omega arith) ∙ ap (λ b. take m bytes ++ (b ∷ [])) e;
    quiet = quiet_take bytes m (λ k h. u k (omega arith));
    settled = λ none. absurd (let z : ◌≡◌ {A = ℕ} 0 1 = cc in omega arith);
    begun = sync refl;
  }

  -- no start, and the last byte is another one
  pub none_held : (n : ℕ) → n ≡ length bytes → Unmarked bytes n → ((m : ℕ) → m + 1 ≡ length bytes → get_or bytes m 0 ≡ 0xFF → ⊥) → Waits (take n bytes) []
  none_held n all u other =
      let whole = take_all n bytes (omega arith) in
      let quiet_all = subst Quiet whole (quiet_take bytes n u) in
      record {
        noise = bytes;
        split = whole ∙ sym (append-nil bytes);
        quiet = quiet_all;
        settled = λ none. quiet_end bytes quiet_all other;
        begun = none refl;
      }

-- a held 0xFF becomes a start by a 0x02
pub sync_then_stx : (bytes : List ℕ) → 0 < length bytes → get_or bytes 0 0 ≡ 0x02 → Waits (0xFF ∷ take 1 bytes) (0xFF ∷ (0x02 ∷ []))
sync_then_stx [] some e = absurd (omega arith)
sync_then_stx (b ∷ bytes) some e = record {
  noise = [];
  split = ap (λ x. 0xFF ∷ (x ∷ [])) e;
  quiet = tt;
  settled = λ none. tt;
  begun = start refl;
}

-- a held 0xFF becomes noise by any other byte
pub sync_then_other : (bytes held : List ℕ) (n : ℕ) → 0 < n → 0 < length bytes → (get_or bytes 0 0 ≡ 0x02 → ⊥) → Waits (take n bytes) held → Waits (0xFF ∷ take n bytes) held
sync_then_other bytes held zero pos some other w = absurd (omega arith)
sync_then_other [] held (suc n) pos some other w = absurd (omega arith)
sync_then_other (b ∷ bytes) held (suc n) pos some other w = record {
  noise = 0xFF ∷ w.noise;
  split = ap (λ l. 0xFF ∷ l) w.split;
  quiet = longer w.noise w.split w.quiet;
  settled = λ h. settled_longer w.noise w.split h (w.settled h);
  begun = w.begun;
}
  where
    longer : (noise : List ℕ) → b ∷ take n bytes ≡ noise ++ held → Quiet noise → Quiet (0xFF ∷ noise)
    longer [] e q = tt
    longer (a ∷ more) e q = (λ f g. other (let z : b ≡ a = cc in z ∙ g), q)

    settled_longer : (noise : List ℕ) → b ∷ take n bytes ≡ noise ++ held → held ≡ [] → Quiet (noise ++ (0x02 ∷ [])) → Quiet (0xFF ∷ (noise ++ (0x02 ∷ [])))
    settled_longer [] e h q = let z : ◌≡◌ {A = ℕ} 0 1 = cc in absurd (omega arith)
    settled_longer (a ∷ more) e h q = (λ f g. other (let z : b ≡ a = cc in z ∙ g), q)
