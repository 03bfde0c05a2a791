-- Chains: what a push leaves of them, and how they begin.
use Rattle.std.proofs.Common.{◌≡◌, inl, inr, ℕ, ◌+◌, ◌-◌, ◌<◌, ◌≤◌, ◌==◌, ◌++◌, if◌then◌else◌, Bool, true, false, List, [], ◌∷◌, length, take, drop, get_or, refl, sym, ap, ◌∙◌, subst, arith, append_assoc, length-append}
use Rattle.std.specs.Prelude.{reverse}
use Rattle.std.proofs.lemmas.Bool.Decides.{nat_tests}
use Rattle.std.proofs.lemmas.List.{drop_more, length-reverse, length-take-le, reverse-append, take-append-drop}
use Rattle.std.proofs.lemmas.Option.{slice_get-get_or}
use Rattle.apd_base.proofs.Lists.{slice_get-push}
use Rattle.apd_index.specs.Chains.{AreFalling, chain}

module _ {X : Type 0} (before : X → ℕ) where
  -- The newest element first.

  chain-older : (x : X) (older : List X) (last : ℕ) → last ≤ length older → chain before (x ∷ older) last ≡ chain before older last
  chain-older x older last l =
      ap (λ (b : Bool). if b then x ∷ chain before older (before x) else chain before older last) (let e : (last == length older + 1) ≡ false = grind (arith, nat_tests) in e)

  chain-newest : (x : X) (older : List X) (last : ℕ) → last ≡ length older + 1 → chain before (x ∷ older) last ≡ x ∷ chain before older (before x)
  chain-newest x older last l =
      ap (λ (b : Bool). if b then x ∷ chain before older (before x) else chain before older last) (let e : (last == length older + 1) ≡ true = grind (arith, nat_tests) in e)

  -- a chain has nothing that is newer than its last element
  chain-behind : (newer older : List X) (last : ℕ) → last ≤ length older → chain before (newer ++ older) last ≡ chain before older last
  chain-behind [] older last l = refl
  chain-behind (x ∷ newer) older last l = chain-older x (newer ++ older) last (let h = length-append newer older in omega (arith, h, l)) ∙ chain-behind newer older last l

  chain-within : (newer older : List X) (x : X) (last : ℕ) → last ≡ length older + 1 → before x ≤ length older → chain before (newer ++ x ∷ older) last ≡ x ∷ chain before (newer ++ x ∷ older) (before x)
  chain-within newer older x last l falls =
      chain-behind newer (x ∷ older) last (omega (arith, l))
      ∙ chain-newest x older last l
      ∙ ap (λ (ys : List X). x ∷ ys) (sym (chain-behind newer (x ∷ older) (before x) (omega (arith, falls)) ∙ chain-older x older (before x) falls))

  pub chain-none : (xs : List X) → chain before xs 0 ≡ []
  chain-none [] = refl
  chain-none (x ∷ xs) = chain-older x xs 0 (omega arith) ∙ chain-none xs

  -- The oldest element first.

  -- what is put changes no chain
  pub chain-push : (xs : List X) (x : X) (last : ℕ) → last ≤ length xs → chain before (reverse (xs ++ x ∷ [])) last ≡ chain before (reverse xs) last
  chain-push xs x last l = ap (λ (ys : List X). chain before ys last) (reverse-append xs (x ∷ [])) ∙ chain-older x (reverse xs) last (let h = length-reverse xs in omega (arith, h, l))

  -- and is the last of a new one
  pub chain-pushed : (xs : List X) (x : X) (last : ℕ) → last ≡ length xs + 1 → chain before (reverse (xs ++ x ∷ [])) last ≡ x ∷ chain before (reverse xs) (before x)
  chain-pushed xs x last l = ap (λ (ys : List X). chain before ys last) (reverse-append xs (x ∷ [])) ∙ chain-newest x (reverse xs) last (let h = length-reverse xs in omega (arith, h, l))

  module _ (d : X) where
    pub falls-at : (xs : List X) (n : ℕ) → AreFalling before xs → 0 < n → n ≤ length xs → before (get_or xs (n - 1) d) < n
    falls-at xs n falling some within = let f = falling (n - 1) (get_or xs (n - 1) d) (slice_get-get_or xs (n - 1) d (omega (arith, some, within))) in omega (arith, f, some)

    -- a chain is its last element, and the chain from the one before it on
    pub chain-at : (xs : List X) (n : ℕ) → AreFalling before xs → 0 < n → n ≤ length xs → chain before (reverse xs) n ≡ get_or xs (n - 1) d ∷ chain before (reverse xs) (before (get_or xs (n - 1) d))
    chain-at xs n falling some within =
        ap (λ (ys : List X). chain before ys n) turned
        ∙ chain-within (reverse newer) (reverse older) x n (let h = long in omega (arith, h, some)) (let h = long in let g = falls-at xs n falling some within in omega (arith, h, g))
        ∙ ap (λ (ys : List X). x ∷ chain before ys (before x)) (sym turned)
      where
        x : X
        x = get_or xs (n - 1) d

        older : List X
        older = take (n - 1) xs

        newer : List X
        newer = drop (n - 1 + 1) xs

        long : length (reverse older) ≡ n - 1
        long = length-reverse older ∙ length-take-le (n - 1) xs (omega (arith, within))

        turned : reverse xs ≡ reverse newer ++ x ∷ reverse older
        turned =
            ap reverse (sym (take-append-drop (n - 1) xs) ∙ ap (λ (ys : List X). older ++ ys) (drop_more xs (n - 1) d (omega (arith, some, within))))
            ∙ reverse-append older (x ∷ newer)
            ∙ ap (λ (ys : List X). ys ++ reverse older) (reverse-append (x ∷ []) newer)
            ∙ append_assoc (reverse newer) (x ∷ []) (reverse older)

pub falling-push : {X : Type 0} (before : X → ℕ) (xs : List X) (x : X) → before x ≤ length xs → AreFalling before xs → AreFalling before (xs ++ x ∷ [])
falling-push before xs x l falling i y e = elim (slice_get-push xs x i y e) [
  | inl h ↦ falling i y h
  | inr h ↦ subst (λ z. before z ≤ i) h.1 (let g = h.0 in omega (arith, l, g))
]
