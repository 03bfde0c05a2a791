-- The text of a store is an oracle file that states what the store keeps.
use Rattle.std.proofs.Common.{◌≡◌, ℕ, ◌+◌, ◌≤◌, Bool, List, [], ◌∷◌, ◌++◌, length, map, Option, None, Some, refl, sym, ◌∙◌, ap, subst, arith, append_assoc, length-append}
use Rattle.std.specs.Prelude.{codes, flat_map, if◌then◌else◌, pos}
use Rattle.std.specs.List.{AllByRecursion}
use Rattle.std.proofs.lemmas.List.{append-nil}
use Rattle.std.proofs.lemmas.List.Concat.{flat_map-append}
use Rattle.std.proofs.lemmas.Fmt.{decimal_digit}
use Rattle.apd_ops.specs.Table.{IsTable, Table}
use Rattle.apd_reading_back.specs.Law.{AreNames, IsInRange}
use Rattle.apd_reading_back.specs.Lines.{AreWritten, Line, ReadsInTurn, as_call, as_clause, lines_text}
use Rattle.apd_reading_back.specs.Queries.{call_term, call_text}
use Rattle.apd_reading_back.proofs.Lines.{lines_read_in_turn}
use Rattle.apd_reading_back.proofs.Read.{standard_text}
use Rattle.apd_term.specs.Growth.{Grown}
use Rattle.apd_term.specs.Names.{HasDistinctTexts, HasUtf8Texts, text_of_name}
use Rattle.apd_term.specs.StandardNames.{standard_names}
use Rattle.apd_term.specs.Term.{Term, integer}
use Rattle.apd_term.specs.declared.standard.TheConstants.{FORM}
use Rattle.apd_term.specs.declared.term.Pred.{Pred}
use Rattle.apd_term.proofs.FirstNames.{length-standard_names}
use Rattle.apd_term.proofs.Ground.{apply-ground}
use Rattle.apd_term.proofs.Variants.{canonical-canonical}
use Rattle.apd_write.specs.NameTexts.{function_text}
use Rattle.apd_write.specs.Writing.{in_parentheses, written}
use Rattle.apd_answers.specs.Once.{AreListedOnce, AreNewPreds, AreOnce, AreSame, with_pairs_in}
use Rattle.apd_answers.specs.Store.{Store, empty_store}
use Rattle.apd_answers.specs.Trust.{with_trust}
use Rattle.apd_answers.specs.declared.store.Pair.{Pair}
use Rattle.apd_answers.proofs.Once.{put-again}
use Rattle.apd_known.specs.Pairs.{AllMayTrust, AllStatable}
use Rattle.apd_known.specs.Statements.{statement_added}
use Rattle.apd_known.specs.declared.file.Stated.{Stated}
use Rattle.apd_known.specs.declared.statements.FileForm.TheVariants.{Second}
use Rattle.apd_text.specs.Named.{HasStandardNames}
use Rattle.apd_kept.specs.Kept.{known_text, pair_line, pair_term, statement_of, reply_term, trust_line, trust_term}
use Rattle.apd_kept.specs.Law.{CanBeWritten, CanReadBack, IsShallow, IsWritableStore, ReadsBackAs}
use Rattle.apd_kept.proofs.Forms.{there}
use Rattle.apd_kept.proofs.MoreNames.{pair_named, trust_named}
use Rattle.apd_kept.proofs.Reading.{Makes, states_in_turn}
use Rattle.apd_kept.proofs.StatedBack.{stated_back, trust_added, trust_back}

-- What the statements make, one after another.

-- what is stated in a file of the second form
abbrev stated : Store → ℕ → Stated
stated store k = record { form = Second; answers = store; statements = k }

Makes-append : (s : Option Stated) (ts us : List Term) (y x : Stated) → Makes s ts y → Makes (Some y) us x → Makes s (ts ++ us) x
Makes-append s [] us y x first rest = subst (λ (o : Option Stated). Makes o us x) (sym first) rest
Makes-append s (t ∷ ts) us y x first rest = (first.0, first.1, Makes-append (Some first.0) ts us y x first.2 rest)

abbrev with_trusts : Store → List Pred → Store
with_trusts store [] = store
with_trusts store (p ∷ ps) = with_trusts (with_trust store p) ps

abbrev counted : {A : Type 0} → ℕ → List A → ℕ
counted k [] = k
counted k (x ∷ xs) = counted (k + 1) xs

abbrev Few : List Pred → Type 0
Few preds = AllByRecursion (λ (p : Pred). p.arity ≤ 255) preds

trust_makes : (n : ℕ) (preds : List Pred) (store : Store) (k : ℕ) → AllMayTrust n preds → Few preds → Makes (Some (stated store k)) (map trust_term preds) (stated (with_trusts store preds) (counted k preds))
trust_makes n [] store k may few = refl
trust_makes n (p ∷ ps) store k may few =
    (stated (with_trust store p) (k + 1), ap (statement_added (stated store k)) (trust_back p few.0) ∙ trust_added n p store k may.0, trust_makes n ps (with_trust store p) (k + 1) may.1 few.1)

-- the store with these pairs too
abbrev with_pairs_to : Store → List Pair → Store
with_pairs_to store qs = record { pairs = with_pairs_in store.pairs qs; trusted = store.trusted }

record PairsMade (store : Store) (k : ℕ) (ps : List Pair) : Type 0 where
  pairs : List Pair
  same : AreSame ps pairs
  makes : Makes (Some (stated store k)) (map pair_term ps) (stated (with_pairs_to store pairs) (counted k ps))

pairs_make : (n : ℕ) (ps : List Pair) (store : Store) (k : ℕ) → AllStatable n ps → PairsMade store k ps
pairs_make n [] store k may = record { pairs = []; same = tt; makes = refl }
pairs_make n (p ∷ ps) store k may =
    let here = stated_back n p may.0 in
    let q = here.pair in
    let next : Store = with_pairs_to store (q ∷ []) in
    let rest = pairs_make n ps next (k + 1) may.1 in
    record { pairs = q ∷ rest.pairs; same = (here.question, here.reply, rest.same); makes = (stated next (k + 1), ap (statement_added (stated store k)) here.stated, rest.makes) }

-- predicates of which each is new are kept in their order
trusts_put : (store : Store) (preds : List Pred) → AreNewPreds store.trusted preds → with_trusts store preds ≡ record { pairs = store.pairs; trusted = store.trusted ++ preds }
trusts_put store [] new = ap (λ (ts : List Pred). record { pairs = store.pairs; trusted = ts }) (sym (append-nil store.trusted))
trusts_put store (p ∷ ps) new =
    let next : Store = record { pairs = store.pairs; trusted = store.trusted ++ p ∷ [] } in
    let first : with_trust store p ≡ next =
    ap (λ (b : Bool). record { pairs = store.pairs; trusted = (if b then store.trusted else store.trusted ++ p ∷ []) }) new.0 in
    ap (λ (s : Store). with_trusts s ps) first
    ∙ trusts_put next ps new.1
    ∙ ap (λ (ts : List Pred). record { pairs = store.pairs; trusted = ts }) (append_assoc store.trusted (p ∷ []) ps)

-- The lines of the text.

abbrev form_term : Term
form_term = integer (pos 2)

module _ (ops : Table) (names : List (List ℕ)) (table : IsTable ops) (all : AreNames names) where
  standard_form : text_of_name standard_names FORM ≡ codes "form"
  unfolding standard_names
  standard_form = refl

  form_name : text_of_name names FORM ≡ codes "form"
  form_name = standard_text names FORM (codes "form") all.standard (omega arith) standard_form

  standard : HasStandardNames (length names)
  standard = let grown = ap (length {A = List ℕ}) all.standard.1 in let both = length-append standard_names all.standard.0 in omega (arith, grown, both)

  abbrev form_line : Line
  form_line = record { text = call_text ops names FORM form_term; term = call_term FORM form_term }

  abbrev line : Term → Line
  line t = record { text = written ops names t 1200; term = t }

  abbrev trust_lines : List Pred → List Line
  trust_lines preds = map (λ (p : Pred). line (trust_term p)) preds

  abbrev pair_lines : List Pair → List Line
  pair_lines pairs = map (λ (p : Pair). line (pair_term p)) pairs

  abbrev lines_of : Store → List Line
  lines_of store = form_line ∷ (trust_lines store.trusted ++ pair_lines store.pairs)

  abbrev terms_of_lines : List Line → List Term
  terms_of_lines ls = map (λ (l : Line). l.term) ls

  form_written : call_text ops names FORM form_term ≡ codes "form(2)"
  form_written =
      ap (λ (bytes : List ℕ). function_text bytes ++ in_parentheses (written ops names form_term 999)) form_name
      ∙ ap (λ (bytes : List ℕ). codes "form" ++ in_parentheses bytes) (decimal_digit 2 (omega arith))

  trust_text : (preds : List Pred) → lines_text (trust_lines preds) ≡ flat_map (trust_line ops names) preds
  trust_text [] = refl
  trust_text (p ∷ ps) = ap (λ (bytes : List ℕ). trust_line ops names p ++ bytes) (trust_text ps)

  pair_text : (pairs : List Pair) → lines_text (pair_lines pairs) ≡ flat_map (pair_line ops names) pairs
  pair_text [] = refl
  pair_text (p ∷ ps) = ap (λ (bytes : List ℕ). pair_line ops names p ++ bytes) (pair_text ps)

  whole_text : (store : Store) → lines_text (lines_of store) ≡ known_text ops names store
  unfolding known_text
  whole_text store =
      let trust : List ℕ = flat_map (trust_line ops names) store.trusted in
      let pairs : List ℕ = flat_map (pair_line ops names) store.pairs in
      let rest : lines_text (trust_lines store.trusted ++ pair_lines store.pairs) ≡ trust ++ pairs =
      flat_map-append (λ (l : Line). l.text ++ codes " .\n") (trust_lines store.trusted) (pair_lines store.pairs)
      ∙ ap (λ (bytes : List ℕ). bytes ++ lines_text (pair_lines store.pairs)) (trust_text store.trusted)
      ∙ ap (λ (bytes : List ℕ). trust ++ bytes) (pair_text store.pairs) in
      ap (λ (bytes : List ℕ). (bytes ++ codes " .\n") ++ lines_text (trust_lines store.trusted ++ pair_lines store.pairs)) form_written
      ∙ ap (λ (bytes : List ℕ). codes "form(2) .\n" ++ bytes) rest
      ∙ sym (append_assoc (codes "form(2) .\n") trust pairs)

  -- each can be written
  trust_written : (preds : List Pred) → AllMayTrust (length names) preds → AllByRecursion (λ p. CanBeWritten ops (trust_term p)) preds → AreWritten ops names (trust_lines preds)
  trust_written [] may can = tt
  trust_written (p ∷ ps) may can = (
    as_clause (trust_term p)
        (record { named = trust_named (length names) p standard may.0.named; canonical = apply-ground (there (trust_term p)) (trust_term p) refl; in_range = can.0.in_range; shallow = can.0.shallow }),
    trust_written ps may.1 can.1,
  )

  pairs_written : (pairs : List Pair) → AllStatable (length names) pairs → AllByRecursion (λ p. CanBeWritten ops (pair_term p)) pairs → AreWritten ops names (pair_lines pairs)
  pairs_written [] may can = tt
  pairs_written (p ∷ ps) may can = (
    as_clause (pair_term p)
        (record {
          named = pair_named (length names) p standard may.0.question_named may.0.reply_named;
          canonical = canonical-canonical (statement_of p.question (reply_term p.reply));
          in_range = can.0.in_range;
          shallow = can.0.shallow;
        }),
    pairs_written ps may.1 can.1,
  )

  both_written : (ls ms : List Line) → AreWritten ops names ls → AreWritten ops names ms → AreWritten ops names (ls ++ ms)
  both_written [] ms v w = w
  both_written (l ∷ ls) ms v w = (v.0, both_written ls ms v.1 w)

  lines_written : (store : Store) → IsWritableStore ops names store → AreWritten ops names (lines_of store)
  lines_written store can = (
    as_call FORM form_term (let many = standard in omega (arith, many, length-standard_names)) (record { named = tt; canonical = refl; in_range = omega arith }) (omega arith),
    both_written (trust_lines store.trusted) (pair_lines store.pairs) (trust_written store.trusted can.trust can.trust_texts) (pairs_written store.pairs can.pairs can.pair_texts),
  )

  -- their terms
  both_terms : (ls ms : List Line) → terms_of_lines (ls ++ ms) ≡ terms_of_lines ls ++ terms_of_lines ms
  both_terms [] ms = refl
  both_terms (l ∷ ls) ms = ap (λ (ts : List Term). l.term ∷ ts) (both_terms ls ms)

  trust_terms : (preds : List Pred) → terms_of_lines (trust_lines preds) ≡ map trust_term preds
  trust_terms [] = refl
  trust_terms (p ∷ ps) = ap (λ (ts : List Term). trust_term p ∷ ts) (trust_terms ps)

  pair_terms : (pairs : List Pair) → terms_of_lines (pair_lines pairs) ≡ map pair_term pairs
  pair_terms [] = refl
  pair_terms (p ∷ ps) = ap (λ (ts : List Term). pair_term p ∷ ts) (pair_terms ps)

  terms_are : (store : Store) → terms_of_lines (lines_of store) ≡ call_term FORM form_term ∷ (map trust_term store.trusted ++ map pair_term store.pairs)
  terms_are store =
      ap (λ (ts : List Term). call_term FORM form_term ∷ ts)
      (both_terms (trust_lines store.trusted) (pair_lines store.pairs)
      ∙ ap (λ (ts : List Term). ts ++ terms_of_lines (pair_lines store.pairs)) (trust_terms store.trusted)
      ∙ ap (λ (ts : List Term). map trust_term store.trusted ++ ts) (pair_terms store.pairs))

  -- the law
  pub reads_back_as : (store : Store) → IsWritableStore ops names store → (s : Stated) × ReadsBackAs ops names store s
  reads_back_as store can =
      let trusted : Store = with_trusts empty_store store.trusted in
      let k : ℕ = counted 0 store.trusted in
      let made = pairs_make (length names) store.pairs trusted k can.pairs in
      let x : Stated = stated (with_pairs_to trusted made.pairs) (counted k store.pairs) in
      let makes : Makes None (call_term FORM form_term ∷ (map trust_term store.trusted ++ map pair_term store.pairs)) x =
      (stated empty_store 0, refl, Makes-append (Some (stated empty_store 0)) (map trust_term store.trusted) (map pair_term store.pairs) (stated trusted k) x (trust_makes (length names) store.trusted empty_store 0 can.trust can.arities) made.makes) in
      let turns : ReadsInTurn ops names (known_text ops names store) (call_term FORM form_term ∷ (map trust_term store.trusted ++ map pair_term store.pairs)) =
      subst (λ (ts : List Term). ReadsInTurn ops names (known_text ops names store) ts) (terms_are store)
      (subst (λ (text : List ℕ). ReadsInTurn ops names text (terms_of_lines (lines_of store))) (whole_text store) (lines_read_in_turn ops names (lines_of store) table all (lines_written store can))) in
      let put : trusted ≡ record { pairs = []; trusted = store.trusted } = trusts_put empty_store store.trusted can.trust_once in
      let kept : with_pairs_in trusted.pairs made.pairs ≡ made.pairs =
      ap (λ (s : Store). with_pairs_in s.pairs made.pairs) put ∙ put-again store.pairs made.pairs can.once made.same in (
        x,
        record {
          reads = λ later reader. states_in_turn ops names later reader (known_text ops names store) (call_term FORM form_term ∷ (map trust_term store.trusted ++ map pair_term store.pairs)) x table turns makes;
          trust = ap (λ (s : Store). s.trusted) put;
          pairs = subst (AreSame store.pairs) (sym kept) made.same;
        },
      )

-- A store whose statements are shallow, and have the numbers of symbols.
pairs_written-by : (ops : Table) (pairs : List Pair) → AllByRecursion (λ p. IsShallow ops (pair_term p)) pairs → AllByRecursion (λ p. IsInRange (pair_term p)) pairs → AllByRecursion (λ p. CanBeWritten ops (pair_term p)) pairs
pairs_written-by ops [] shallow ranges = tt
pairs_written-by ops (p ∷ ps) shallow ranges = (record { in_range = ranges.0; shallow = shallow.0 }, pairs_written-by ops ps shallow.1 ranges.1)

trust_range : (p : Pred) → p.arity ≤ 255 → IsInRange (trust_term p)
trust_range p few = (omega arith, ((omega arith, ((omega arith, tt), (omega (arith, few), tt))), tt))

trusts_written-by : (ops : Table) (preds : List Pred) → AllByRecursion (λ p. IsShallow ops (trust_term p)) preds → Few preds → AllByRecursion (λ p. CanBeWritten ops (trust_term p)) preds
trusts_written-by ops [] shallow few = tt
trusts_written-by ops (p ∷ ps) shallow few = (record { in_range = trust_range p few.0; shallow = shallow.0 }, trusts_written-by ops ps shallow.1 few.1)

pub store_reads_back : (ops : Table) (names : List (List ℕ)) (store : Store) → IsTable ops → HasDistinctTexts names → Grown standard_names names → HasUtf8Texts names → AreOnce store.pairs → AreListedOnce store.trusted
    → AllByRecursion (λ (p : Pred). p.arity ≤ 255) store.trusted → AllByRecursion (λ p. IsInRange (pair_term p)) store.pairs → CanReadBack ops names store → (s : Stated) × ReadsBackAs ops names store s
store_reads_back ops names store table distinct standard utf8 once listed arities ranges can =
    reads_back_as ops names table (record { distinct = distinct; standard = standard; utf8 = utf8 }) store
    (record {
      pairs = can.pairs;
      once = once;
      trust = can.trust;
      trust_once = listed;
      arities = arities;
      pair_texts = pairs_written-by ops store.pairs can.shallow.pairs ranges;
      trust_texts = trusts_written-by ops store.trusted can.shallow.trust arities;
    })
