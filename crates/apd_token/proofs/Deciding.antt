-- Whether bytes stand for characters, and that a token's bytes do.
use Rattle.std.proofs.Common.{◌≡◌, ℕ, ◌⊎◌, inl, inr, List, [], ◌∷◌, ◌++◌, drop, refl, sym, ◌∙◌, ap, subst, arith}
use Rattle.std.proofs.lemmas.Bool.{cases_eq}
use Rattle.std.proofs.lemmas.List.Folds.{drop_split}
use Rattle.apd_token.specs.Quotes.{spelling}
use Rattle.apd_token.specs.Grammar.{Stands, ContentOf}
use Rattle.apd_token.specs.declared.items.TokenKind.{TokenKind}
use Rattle.apd_token.specs.declared.items.TokenKind.TheVariants.{Name, Variable, End, Quoted, Codes, Integer, Open, Close, OpenList, CloseList, OpenCurly, CloseCurly, Comma, Bar}
use Rattle.apd_token.proofs.Elements.{one_body}
use Rattle.apd_token.proofs.Quoting.{IsQuote, none_at_close}
use Rattle.apd_token.proofs.Seeking.{body_from}

is_just : (q : ℕ) (xs : List ℕ) → (xs ≡ q ∷ []) ⊎ (xs ≡ q ∷ [] → ⊥)
is_just q [] = inr (λ e. cc)
is_just q (b ∷ []) = elim (cases_eq b q) [ inl same ↦ inl (ap (λ n. n ∷ []) same) | inr other ↦ inr (λ e. other (let h : b ≡ q = cc in h)) ]
is_just q (b ∷ c ∷ xs) = inr (λ e. cc)

-- the bytes between the quotes, in one way
after_quote : (q : ℕ) (rest value : List ℕ) (s : Stands q (q ∷ rest) value) → rest ≡ spelling s.elements ++ q ∷ []
after_quote q rest value s = let h = s.spelled in cc

stands_behind : (q : ℕ) → IsQuote q → (rest : List ℕ) → ((v : List ℕ) × Stands q (q ∷ rest) v) ⊎ ((v : List ℕ) → Stands q (q ∷ rest) v → ⊥)
stands_behind q is rest =
    let found = body_from rest 0 q is (omega arith) in
    let i = found.0 in
    let body = found.2 in
    let split : rest ≡ spelling body.elements ++ drop i rest = drop_split rest 0 i (omega arith) ∙ ap (λ l. l ++ drop i rest) body.spelled in
    elim (is_just q (drop i rest)) [
      | inl close ↦ inl (found.1, record { elements = body.elements; each = body.each; spelled = ap (λ l. q ∷ l) (split ∙ ap (λ l. spelling body.elements ++ l) close); means = body.means })
      | inr isnt ↦ inr (λ v s. isnt (one_body q body.elements s.elements (drop i rest) (q ∷ []) body.each s.each found.3 (none_at_close q [] is tt) (sym split ∙ after_quote q rest v s)).1)
    ]

stands : (q : ℕ) → IsQuote q → (bytes : List ℕ) → ((v : List ℕ) × Stands q bytes v) ⊎ ((v : List ℕ) → Stands q bytes v → ⊥)
stands q is [] = inr (λ v s. let h = s.spelled in cc)
stands q is (b ∷ rest) = elim (cases_eq q b) [
  | inl same ↦ subst (λ (n : ℕ). ((v : List ℕ) × Stands q (n ∷ rest) v) ⊎ ((v : List ℕ) → Stands q (n ∷ rest) v → ⊥)) same (stands_behind q is rest)
  | inr other ↦ inr (λ v s. other (let h = s.spelled in let e : q ≡ b = cc in e))
]

pub content_or_none : (k : TokenKind) (bytes : List ℕ) → ((v : List ℕ) × ContentOf k bytes v) ⊎ ((v : List ℕ) → ContentOf k bytes v → ⊥)
content_or_none Name bytes = inl (bytes, refl)
content_or_none Variable bytes = inl (bytes, refl)
content_or_none Quoted bytes = stands 39 (inl refl) bytes
content_or_none Codes bytes = stands 34 (inr refl) bytes
content_or_none (Integer n) bytes = inl ([], tt)
content_or_none Open bytes = inl ([], tt)
content_or_none Close bytes = inl ([], tt)
content_or_none OpenList bytes = inl ([], tt)
content_or_none CloseList bytes = inl ([], tt)
content_or_none OpenCurly bytes = inl ([], tt)
content_or_none CloseCurly bytes = inl ([], tt)
content_or_none Comma bytes = inl ([], tt)
content_or_none Bar bytes = inl ([], tt)
content_or_none End bytes = inl ([], tt)
