-- The variables of bindings that are kept, each of which is told by the first one of it, and the bindings.
use Rattle.std.proofs.Common.{◌≡◌, ℕ, zero, suc, ◌+◌, ◌<◌, List, [], ◌∷◌, ◌++◌, length, get_or, refl, ◌∙◌, ap, set, arith}
use Rattle.std.proofs.lemmas.List.{length-append}
use Rattle.apd_past.specs.Done.{Span}
use Rattle.apd_past.specs.Linked.{no_kept, span_of, spans_of, spans_with, variable_by, variables_after, variables_of}
use Rattle.apd_past.specs.declared.spans.KeptSpan.{KeptSpan}

length-after : (vs : List ℕ) (ks : List KeptSpan) → length (variables_after vs ks) ≡ length vs + length ks
length-after vs [] = omega arith
length-after vs (k ∷ ks) =
    let v = variable_by k.jump k.way vs in
    omega (arith, length-after (vs ++ v ∷ []) ks, length-append vs (v ∷ []))

pub length-variables : (kept : List KeptSpan) → length (variables_of kept) ≡ length kept
length-variables kept = omega (arith, length-after [] kept)

after-append : (vs : List ℕ) (ks ls : List KeptSpan) → variables_after vs (ks ++ ls) ≡ variables_after (variables_after vs ks) ls
after-append vs [] ls = refl
after-append vs (k ∷ ks) ls = after-append (vs ++ variable_by k.jump k.way vs ∷ []) ks ls

pub variables_more : (kept : List KeptSpan) (x : KeptSpan) → variables_of (kept ++ x ∷ []) ≡ variables_of kept ++ variable_by x.jump x.way (variables_of kept) ∷ []
variables_more kept x = after-append [] kept (x ∷ [])

-- the ways stay
after-set : (vs : List ℕ) (ks : List KeptSpan) (i : ℕ) (x : KeptSpan) → i < length ks → x.way ≡ (get_or ks i no_kept).way → x.jump ≡ (get_or ks i no_kept).jump
    → variables_after vs (set ks i x) ≡ variables_after vs ks
after-set vs [] i x l w j = absurd (omega arith)
after-set vs (k ∷ ks) zero x l w j =
    ap (λ z. variables_after (vs ++ z ∷ []) ks) (ap (λ z. variable_by z x.way vs) j ∙ ap (λ z. variable_by k.jump z vs) w)
after-set vs (k ∷ ks) (suc i) x l w j = after-set (vs ++ variable_by k.jump k.way vs ∷ []) ks i x (omega arith) w j

pub variables_set : (kept : List KeptSpan) (i : ℕ) (x : KeptSpan) → i < length kept → x.way ≡ (get_or kept i no_kept).way → x.jump ≡ (get_or kept i no_kept).jump
    → variables_of (set kept i x) ≡ variables_of kept
variables_set kept i x l w j = after-set [] kept i x l w j

-- the bindings of these variables
with-append : (vs ws : List ℕ) (ks ls : List KeptSpan) → length vs ≡ length ks → spans_with (vs ++ ws) (ks ++ ls) ≡ spans_with vs ks ++ spans_with ws ls
with-append [] ws [] ls e = refl
with-append [] ws (k ∷ ks) ls e = absurd (omega arith)
with-append (v ∷ vs) ws [] ls e = absurd (omega arith)
with-append (v ∷ vs) ws (k ∷ ks) ls e = ap (λ r. span_of v k ∷ r) (with-append vs ws ks ls (omega arith))

length-with : (vs : List ℕ) (ks : List KeptSpan) → length vs ≡ length ks → length (spans_with vs ks) ≡ length ks
length-with [] [] e = refl
length-with [] (k ∷ ks) e = absurd (omega arith)
length-with (v ∷ vs) [] e = absurd (omega arith)
length-with (v ∷ vs) (k ∷ ks) e = (let r = length-with vs ks (omega arith) in omega (arith, r))

at-with : (vs : List ℕ) (ks : List KeptSpan) (i : ℕ) (d : Span) → length vs ≡ length ks → i < length ks → get_or (spans_with vs ks) i d ≡ span_of (get_or vs i 0) (get_or ks i no_kept)
at-with [] [] i d e l = absurd (omega arith)
at-with [] (k ∷ ks) i d e l = absurd (omega arith)
at-with (v ∷ vs) [] i d e l = absurd (omega arith)
at-with (v ∷ vs) (k ∷ ks) zero d e l = refl
at-with (v ∷ vs) (k ∷ ks) (suc i) d e l = at-with vs ks i d (omega arith) (omega arith)

set-with : (vs : List ℕ) (ks : List KeptSpan) (i : ℕ) (x : KeptSpan) → length vs ≡ length ks → i < length ks
    → spans_with vs (set ks i x) ≡ set (spans_with vs ks) i (span_of (get_or vs i 0) x)
set-with [] [] i x e l = absurd (omega arith)
set-with [] (k ∷ ks) i x e l = absurd (omega arith)
set-with (v ∷ vs) [] i x e l = absurd (omega arith)
set-with (v ∷ vs) (k ∷ ks) zero x e l = refl
set-with (v ∷ vs) (k ∷ ks) (suc i) x e l = ap (λ r. span_of v k ∷ r) (set-with vs ks i x (omega arith) (omega arith))

pub spans_more : (kept : List KeptSpan) (x : KeptSpan) → spans_of (kept ++ x ∷ []) ≡ spans_of kept ++ span_of (variable_by x.jump x.way (variables_of kept)) x ∷ []
spans_more kept x =
    ap (λ vs. spans_with vs (kept ++ x ∷ [])) (variables_more kept x)
    ∙ with-append (variables_of kept) (variable_by x.jump x.way (variables_of kept) ∷ []) kept (x ∷ []) (length-variables kept)

pub length-spans : (kept : List KeptSpan) → length (spans_of kept) ≡ length kept
length-spans kept = length-with (variables_of kept) kept (length-variables kept)

pub span_at : (kept : List KeptSpan) (i : ℕ) (d : Span) → i < length kept → get_or (spans_of kept) i d ≡ span_of (get_or (variables_of kept) i 0) (get_or kept i no_kept)
span_at kept i d l = at-with (variables_of kept) kept i d (length-variables kept) l

pub spans_set : (kept : List KeptSpan) (i : ℕ) (x : KeptSpan) → i < length kept → x.way ≡ (get_or kept i no_kept).way → x.jump ≡ (get_or kept i no_kept).jump
    → spans_of (set kept i x) ≡ set (spans_of kept) i (span_of (get_or (variables_of kept) i 0) x)
spans_set kept i x l w j =
    ap (λ vs. spans_with vs (set kept i x)) (variables_set kept i x l w j)
    ∙ set-with (variables_of kept) kept i x (length-variables kept) l
