-- A clause has at most one reading or first fault.
use Rattle.std.proofs.Common.{◌≡◌, ℕ, ◌+◌, ◌≤◌, ◌<◌, List, [], ◌∷◌, ◌++◌, length, Result, Ok, Err, refl, sym, ◌∙◌, ap, subst, arith}
use Rattle.apd_term.specs.declared.term.NameId.{NameId}
use Rattle.apd_term.specs.Names.{number_of}
use Rattle.apd_causes.specs.declared.faults.ReadFault.{ReadFault}
use Rattle.apd_causes.specs.declared.faults.ReadFault.TheVariants as faults
use Rattle.apd_causes.specs.declared.reading.Read.{Read}
use Rattle.apd_ops.specs.Table.{Table, IsTable}
use Rattle.apd_token.specs.declared.items.TokenKind.{TokenKind}
use Rattle.apd_token.specs.declared.items.TokenKind.TheVariants as kinds
use Rattle.apd_token.specs.declared.items.Token.{Token}
use Rattle.apd_token.proofs.Contents.{one_content}
use Rattle.std.specs.Str.{chars}
use Rattle.std.proofs.lemmas.List.{same_from_push}
use Rattle.apd_read.specs.declared.lexeme.Sort.{Sort}
use Rattle.apd_read.specs.declared.lexeme.Sort.TheVariants as sorts
use Rattle.apd_read.specs.declared.lexeme.Lexeme.{Lexeme}
use Rattle.apd_read.specs.declared.phrase.Phrase.{Phrase}
use Rattle.apd_read.specs.declared.places.Inside.TheVariants.{Clause}
use Rattle.apd_read.specs.declared.brackets.Whole.{Whole}
use Rattle.apd_read.specs.declared.brackets.ClauseFault.{ClauseFault}
use Rattle.apd_read.specs.declared.brackets.ClauseFault.TheVariants as clause
use Rattle.apd_read.specs.Reading.{Splits}
use Rattle.apd_read.specs.Clause.{Fills, IsClauseFault}
use Rattle.apd_read.specs.Lexemes.{IsNameOf, variable_place, with_variable, IsSort, IsLexeme, AreLexemes, no_lexeme, then_lexeme}
use Rattle.apd_read.specs.Answer.{place_of, placed, IsFaultIn, HasLexemes, HasReading, HasFault}
use Rattle.apd_read.specs.Reader.{IsRead}
use Rattle.apd_read.proofs.Fronts.{only_answer}

no_end : {A : Type 0} (xs : List A) (x : A) → [] ≡ xs ++ x ∷ [] → ⊥
no_end [] x e = cc
no_end (a ∷ xs) x e = cc

-- what a token stands for, and the variables behind it
abbrev Same : Sort → Sort → List (List ℕ) → List (List ℕ) → Type 0
Same s t after rest = (s ≡ t) × (after ≡ rest)

fixed : (w s t : Sort) (vars after rest : List (List ℕ)) → s ≡ w → after ≡ vars → t ≡ w → rest ≡ vars → Same s t after rest
fixed w s t vars after rest e a f b = (e ∙ sym f, a ∙ sym b)

one_name : (names : List (List ℕ)) (u v : List ℕ) (f g : NameId) → u ≡ v → IsNameOf names f u → IsNameOf names g v → f ≡ g
one_name names u v f g e p q =
    let n : f.0 ≡ g.0 = p ∙ ap (λ w. number_of names w) e ∙ sym q in
    let id : ℕ → NameId = λ k. record { 0 = k } in
    ap id n

one_sort : (k : TokenKind) (names : List (List ℕ)) (bytes : List ℕ) (vars : List (List ℕ)) (s : Sort) (after : List (List ℕ)) (t : Sort) (rest : List (List ℕ))
    → IsSort k names bytes vars s after → IsSort k names bytes vars t rest → Same s t after rest
one_sort kinds.Name names bytes vars s after t rest p q =
    let e : p.0 ≡ q.0 = one_content kinds.Name bytes p.0 q.0 tt p.2 q.2 in
    (p.4 ∙ ap (λ (w : NameId). sorts.Name w) (one_name names p.0 q.0 p.1 q.1 e p.3 q.3) ∙ sym q.4, p.5 ∙ sym q.5)
one_sort kinds.Quoted names bytes vars s after t rest p q =
    let e : p.0 ≡ q.0 = one_content kinds.Quoted bytes p.0 q.0 tt p.2 q.2 in
    (p.4 ∙ ap (λ (w : NameId). sorts.Quoted w) (one_name names p.0 q.0 p.1 q.1 e p.3 q.3) ∙ sym q.4, p.5 ∙ sym q.5)
one_sort kinds.Codes names bytes vars s after t rest p q =
    let e : p.0 ≡ q.0 = one_content kinds.Codes bytes p.0 q.0 tt p.1 q.1 in
    (p.2 ∙ ap (λ w. sorts.Codes (chars w)) e ∙ sym q.2, p.3 ∙ sym q.3)
one_sort kinds.Variable names bytes vars s after t rest p q =
    let e : p.0 ≡ q.0 = one_content kinds.Variable bytes p.0 q.0 tt p.1 q.1 in
    (p.2 ∙ ap (λ w. sorts.Variable (variable_place vars w + 1)) e ∙ sym q.2, p.3 ∙ ap (λ w. with_variable vars w) e ∙ sym q.3)
one_sort (kinds.Integer i) names bytes vars s after t rest p q = fixed _ s t vars after rest p.0 p.1 q.0 q.1
one_sort kinds.Open names bytes vars s after t rest p q = fixed _ s t vars after rest p.0 p.1 q.0 q.1
one_sort kinds.Close names bytes vars s after t rest p q = fixed _ s t vars after rest p.0 p.1 q.0 q.1
one_sort kinds.OpenList names bytes vars s after t rest p q = fixed _ s t vars after rest p.0 p.1 q.0 q.1
one_sort kinds.CloseList names bytes vars s after t rest p q = fixed _ s t vars after rest p.0 p.1 q.0 q.1
one_sort kinds.OpenCurly names bytes vars s after t rest p q = fixed _ s t vars after rest p.0 p.1 q.0 q.1
one_sort kinds.CloseCurly names bytes vars s after t rest p q = fixed _ s t vars after rest p.0 p.1 q.0 q.1
one_sort kinds.Comma names bytes vars s after t rest p q = fixed _ s t vars after rest p.0 p.1 q.0 q.1
one_sort kinds.Bar names bytes vars s after t rest p q = fixed _ s t vars after rest p.0 p.1 q.0 q.1
one_sort kinds.End names bytes vars s after t rest p q = fixed _ s t vars after rest p.0 p.1 q.0 q.1

one_lexeme : (names : List (List ℕ)) (text : List ℕ) (vars : List (List ℕ)) (t : Token) (l m : Lexeme) (after rest : List (List ℕ))
    → IsLexeme names text vars t l after → IsLexeme names text vars t m rest → (l ≡ m) × (after ≡ rest)
one_lexeme names text vars t l m after rest p q =
    let k = one_sort t.kind names _ vars l.sort after m.sort rest p.0 q.0 in
    let spaced : l.spaced ≡ m.spaced = p.1 ∙ sym q.1 in
    let start : l.start ≡ m.start = p.2 ∙ sym q.2 in
    let sort : l.sort ≡ m.sort = k.0 in
    ((λ i. record { sort = sort i; spaced = spaced i; start = start i }), k.1)

one_list : {names : List (List ℕ)} {text : List ℕ} {ts us : List Token} {ls ms : List Lexeme} {vars after : List (List ℕ)}
    → AreLexemes names text ts ls vars → AreLexemes names text us ms after → ts ≡ us → (ls ≡ ms) × (vars ≡ after)
one_list no_lexeme no_lexeme e = (refl, refl)
one_list no_lexeme (then_lexeme {ts = us} u m b q y) e = absurd (no_end us u e)
one_list (then_lexeme {ts = ts} t l a p x) no_lexeme e = absurd (no_end ts t (sym e))
one_list {names} {text} (then_lexeme {ts = ts} {ls} {vars} t l a p x) (then_lexeme {ts = us} {ls = ms} {vars = ws} u m b q y) e =
    let k = same_from_push ts us t u e in
    let h = one_list p q k.0 in
    let y' : IsLexeme names text vars t m b = subst (λ (w : Token). IsLexeme names text vars w m b) (sym k.1) (subst (λ (w : List (List ℕ)). IsLexeme names text w u m b) (sym h.1) y) in
    let one = one_lexeme names text vars t l m a b x y' in
    ((λ i. h.0 i ++ one.0 i ∷ []), one.1)

-- the tokens of a clause stand for one list of lexemes
pub one_clause : (names : List (List ℕ)) (text : List ℕ) (tokens : List Token) (at : ℕ) (c d : HasLexemes names text tokens at) → (c.lexemes ≡ d.lexemes) × (c.vars ≡ d.vars)
one_clause names text tokens at c d = one_list c.are d.are refl

abbrev ok_of : Whole → Result Whole ClauseFault
ok_of w = Ok w

abbrev err_of : ClauseFault → Result Whole ClauseFault
err_of e = Err e

ok_apart : (w : Whole) (e : ClauseFault) → ok_of w ≡ err_of e → ⊥
ok_apart w e h = cc

same_ok : (v w : Whole) → ok_of v ≡ ok_of w → v ≡ w
same_ok v w h = cc

same_err : (e f : ClauseFault) → err_of e ≡ err_of f → e ≡ f
same_err e f h = cc

memory_apart : (w : Whole) → ok_of w ≡ err_of clause.Memory → ⊥
memory_apart w h = ok_apart w clause.Memory h

one_whole : (ops : Table) (ls : List Lexeme) (p q : Phrase) (m n : ℕ) → IsTable ops → Fills Splits ops ls Clause 0 p m → Fills Splits ops ls Clause 0 q n → (p ≡ q) × (m ≡ n)
one_whole ops ls p q m n table f g =
    let v : Whole = record { phrase = p; next = m } in
    let w : Whole = record { phrase = q; next = n } in
    let e : v ≡ w = same_ok v w (only_answer ops ls (Ok v) (Ok w) table f g (memory_apart v) (memory_apart w)) in
    (ap (λ x. x.phrase) e, ap (λ x. x.next) e)

one_read : (ops : Table) (names : List (List ℕ)) (text : List ℕ) (tokens : List Token) (at : ℕ) (r q : Read) → IsTable ops → HasReading ops names text tokens at r → HasReading ops names text tokens at q → r ≡ q
one_read ops names text tokens at r q table p h =
    let c = one_clause names text tokens at p.clause h.clause in
    let fills : Fills Splits ops p.clause.lexemes Clause 0 h.phrase h.count = subst (λ ls. Fills Splits ops ls Clause 0 h.phrase h.count) (sym c.0) h.fills in
    let one = one_whole ops p.clause.lexemes p.phrase h.phrase p.count h.count table p.fills fills in
    let term : r.term ≡ q.term = p.term ∙ ap (λ x. x.term) one.0 ∙ sym h.term in
    let vars : r.vars ≡ q.vars = p.vars ∙ c.1 ∙ sym h.vars in
    let start : r.start ≡ q.start = p.start ∙ ap (λ ls. place_of ls (length text) 0) c.0 ∙ sym h.start in
    let next : r.next ≡ q.next = p.next ∙ ap (λ n. at + n) one.1 ∙ sym h.next in
    λ i. record { term = term i; vars = vars i; start = start i; next = next i }

-- a fault that is seen at a token, or the depth
data Told (ops : Table) (ls : List Lexeme) (text_end : ℕ) : ReadFault → Type 0 where
  at_token : (e : ClauseFault) → IsClauseFault Splits ops ls e → (e ≡ clause.Memory → ⊥) → Told ops ls text_end (placed ls text_end e)
  too_deep : (p : Phrase) (n : ℕ) → Fills Splits ops ls Clause 0 p n → 1000 ≤ p.height → Told ops ls text_end (faults.TooDeep (place_of ls text_end 0))

module _ (ops : Table) (ls : List Lexeme) (text_end : ℕ) where
  seen_at : (f : ReadFault) (e : ClauseFault) → IsClauseFault Splits ops ls e → (e ≡ clause.Memory → ⊥) → f ≡ placed ls text_end e → Told ops ls text_end f
  seen_at f e h m is = subst (Told ops ls text_end) (sym is) (at_token e h m)

  told : (f : ReadFault) → (f ≡ faults.Memory → ⊥) → IsFaultIn ops ls text_end f → Told ops ls text_end f
  told (faults.NoTerm k) m h = seen_at (faults.NoTerm k) (clause.NoTerm h.0) h.1 (λ e. cc) (ap faults.NoTerm h.2)
  told (faults.Priority k) m h = seen_at (faults.Priority k) (clause.Priority h.0) h.1 (λ e. cc) (ap faults.Priority h.2)
  told (faults.Unclosed k) m h = seen_at (faults.Unclosed k) (clause.Unclosed h.0) h.1 (λ e. cc) (ap faults.Unclosed h.2)
  told (faults.Stray k) m h = seen_at (faults.Stray k) (clause.Stray h.0) h.1 (λ e. cc) (ap faults.Stray h.2)
  told (faults.NoEnd k) m h = seen_at (faults.NoEnd k) (clause.NoEnd h.0) h.1 (λ e. cc) (ap faults.NoEnd h.2)
  told (faults.ArityOver k) m h = seen_at (faults.ArityOver k) (clause.ArityOver h.0) h.1 (λ e. cc) (ap faults.ArityOver h.2)
  told (faults.Wide k) m h = seen_at (faults.Wide k) (clause.Wide h.0) h.1 (λ e. cc) (ap faults.Wide h.2)
  told (faults.TooDeep k) m h = subst (Told ops ls text_end) (ap faults.TooDeep (sym h.4)) (too_deep h.0 h.1 h.2 h.3)
  told faults.Memory m h = absurd (m refl)

err_memory : (e : ClauseFault) → (e ≡ clause.Memory → ⊥) → err_of e ≡ err_of clause.Memory → ⊥
err_memory e m h = m (same_err e clause.Memory h)

one_told : (ops : Table) (ls : List Lexeme) (text_end : ℕ) (f g : ReadFault) → IsTable ops → Told ops ls text_end f → Told ops ls text_end g → f ≡ g
one_told ops ls text_end f g table (at_token d h m) (at_token e k n) =
    ap (placed ls text_end) (same_err d e (only_answer ops ls (Err d) (Err e) table h k (err_memory d m) (err_memory e n)))
one_told ops ls text_end f g table (at_token d h m) (too_deep p n k deep) =
    let w : Whole = record { phrase = p; next = n } in
    absurd (ok_apart w d (only_answer ops ls (Ok w) (Err d) table k h (memory_apart w) (err_memory d m)))
one_told ops ls text_end f g table (too_deep p n k deep) (at_token d h m) =
    let w : Whole = record { phrase = p; next = n } in
    absurd (ok_apart w d (only_answer ops ls (Ok w) (Err d) table k h (memory_apart w) (err_memory d m)))
one_told ops ls text_end f g table (too_deep p n k deep) (too_deep q o l deeper) = refl

one_fault : (ops : Table) (names : List (List ℕ)) (text : List ℕ) (tokens : List Token) (at : ℕ) (f g : ReadFault) → IsTable ops → (f ≡ faults.Memory → ⊥) → (g ≡ faults.Memory → ⊥)
    → HasFault ops names text tokens at f → HasFault ops names text tokens at g → f ≡ g
one_fault ops names text tokens at f g table m n p q =
    let c = one_clause names text tokens at p.clause q.clause in
    let k : IsFaultIn ops p.clause.lexemes (length text) g = subst (λ ls. IsFaultIn ops ls (length text) g) (sym c.0) q.fault in
    one_told ops p.clause.lexemes (length text) f g table (told ops p.clause.lexemes (length text) f m p.fault) (told ops p.clause.lexemes (length text) g n k)

not_told : (ops : Table) (ls : List Lexeme) (text_end : ℕ) (f : ReadFault) (p : Phrase) (n : ℕ) → IsTable ops → Fills Splits ops ls Clause 0 p n → p.height < 1000 → Told ops ls text_end f → ⊥
not_told ops ls text_end f p n table fills shallow (at_token e h m) =
    let w : Whole = record { phrase = p; next = n } in
    ok_apart w e (only_answer ops ls (Ok w) (Err e) table fills h (memory_apart w) (err_memory e m))
not_told ops ls text_end f p n table fills shallow (too_deep q o k deep) =
    let one = one_whole ops ls p q n o table fills k in
    let height : p.height ≡ q.height = ap (λ x. x.height) one.0 in
    omega arith

no_fault : (ops : Table) (names : List (List ℕ)) (text : List ℕ) (tokens : List Token) (at : ℕ) (r : Read) (f : ReadFault) → IsTable ops → (f ≡ faults.Memory → ⊥)
    → HasReading ops names text tokens at r → HasFault ops names text tokens at f → ⊥
no_fault ops names text tokens at r f table m p q =
    let c = one_clause names text tokens at p.clause q.clause in
    let k : IsFaultIn ops p.clause.lexemes (length text) f = subst (λ ls. IsFaultIn ops ls (length text) f) (sym c.0) q.fault in
    not_told ops p.clause.lexemes (length text) f p.phrase p.count table p.fills p.shallow (told ops p.clause.lexemes (length text) f m k)

-- what is read isn't want of memory
read_fault : (ops : Table) (names : List (List ℕ)) (text : List ℕ) (tokens : List Token) (at : ℕ) (f : ReadFault) → IsRead ops names text tokens at (Err f) → (f ≡ faults.Memory → ⊥) × HasFault ops names text tokens at f
read_fault ops names text tokens at (faults.NoTerm k) h = ((λ e. cc), h)
read_fault ops names text tokens at (faults.Priority k) h = ((λ e. cc), h)
read_fault ops names text tokens at (faults.Unclosed k) h = ((λ e. cc), h)
read_fault ops names text tokens at (faults.Stray k) h = ((λ e. cc), h)
read_fault ops names text tokens at (faults.NoEnd k) h = ((λ e. cc), h)
read_fault ops names text tokens at (faults.ArityOver k) h = ((λ e. cc), h)
read_fault ops names text tokens at (faults.Wide k) h = ((λ e. cc), h)
read_fault ops names text tokens at (faults.TooDeep k) h = ((λ e. cc), h)
read_fault ops names text tokens at faults.Memory h = absurd h

pub one_answer : (ops : Table) (names : List (List ℕ)) (text : List ℕ) (tokens : List Token) (at : ℕ) (a b : Result Read ReadFault) → IsTable ops → IsRead ops names text tokens at a → IsRead ops names text tokens at b → a ≡ b
one_answer ops names text tokens at (Ok r) (Ok q) table h k = let e = one_read ops names text tokens at r q table h k in ap Ok e
one_answer ops names text tokens at (Ok r) (Err f) table h k = let x = read_fault ops names text tokens at f k in absurd (no_fault ops names text tokens at r f table x.0 h x.1)
one_answer ops names text tokens at (Err f) (Ok q) table h k = let x = read_fault ops names text tokens at f h in absurd (no_fault ops names text tokens at q f table x.0 k x.1)
one_answer ops names text tokens at (Err f) (Err g) table h k =
    let x = read_fault ops names text tokens at f h in
    let y = read_fault ops names text tokens at g k in
    let e = one_fault ops names text tokens at f g table x.0 y.0 x.1 y.1 in
    ap Err e
