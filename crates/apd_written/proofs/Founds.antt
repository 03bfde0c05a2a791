-- The lines of what is found say it.
use Rattle.std.proofs.Common.{◌≡◌, ℕ, ◌<◌, List, [], ◌∷◌, ◌++◌, refl, sym, ◌∙◌, ap, subst, append_assoc, arith, Some}
use Rattle.std.specs.Prelude.{codes}
use Rattle.std.specs.Fmt.{decimal}
use Rattle.apd_term.specs.Canonical.{canonical}
use Rattle.apd_term.specs.Term.{Term}
use Rattle.apd_term.specs.Tuple.{canonical_tuple}
use Rattle.apd_term.specs.declared.tuple.Tuple.{Tuple}
use Rattle.apd_term.proofs.Variants.{canonical-canonical}
use Rattle.apd_ops.specs.Table.{Table, IsTable}
use Rattle.apd_read.specs.Reader.{Reader}
use Rattle.apd_answers.specs.declared.finding.Finding.TheVariants.{WrongInstance, Uncovered}
use Rattle.apd_text.specs.ClauseTerms.{clause_term}
use Rattle.apd_text.specs.Dialogues.{atom_text, clause_text, clause_place, finding_text}
use Rattle.apd_text.specs.Lines.{goal_text}
use Rattle.apd_text.specs.Entries.{text_of}
use Rattle.apd_text.specs.declared.entry.Entry.TheVariants as entry
use Rattle.apd_write.specs.Writing.{written}
use Rattle.apd_reading_back.specs.Law.{AreNames}
use Rattle.apd_claims.specs.declared.claim.Claim.TheVariants.{Descends}
use Rattle.apd_claims.specs.declared.form.LineForm.TheVariants.{Framed, Descent, Unread}
use Rattle.apd_claims.specs.declared.form.LineFrame.TheVariants.{Instance, Uncovered as OfGoal}
use Rattle.apd_claims.specs.Forms.{form_in, placed_form}
use Rattle.apd_parts.specs.Parts.{Led, if_some, led_by}
use Rattle.apd_claims.specs.Parting.{called_by}
use Rattle.apd_claims.specs.Reading.{as_clause}
use Rattle.apd_claims.specs.Saying.{claim_by}
use Rattle.apd_written.specs.Claims.{claims_of}
use Rattle.apd_written.specs.Says.{Says, no_line, one_line}
use Rattle.apd_written.specs.Texts.{IsTellable, IsClauseTellable, IsShort}
use Rattle.apd_written.proofs.Saying.{break-append}
use Rattle.apd_written.proofs.Breaks.{codes-break, decimal-break, written-break}
use Rattle.apd_written.proofs.Parts.{as-short, behind-short, behind-two, drop-front, led-high, led-low, line-short}
use Rattle.apd_written.proofs.Entries.{claim-back, framed-says}
use Rattle.apd_written.proofs.Questions.{canonical_tuple-again}
use Rattle.apd_written.proofs.Symptoms.{atom-read}
use Rattle.apd_written.proofs.Clauses.{clause-read, clause-back, clause-break}

-- the lines without their ends
abbrev wrong_rest : Table → List (List ℕ) → ℕ → ℕ → Tuple → List ℕ
wrong_rest ops names clause line t = decimal clause ++ (codes ", line " ++ (decimal line ++ (codes ": " ++ clause_text ops names t)))

abbrev wrong_line : Table → List (List ℕ) → ℕ → ℕ → Tuple → List ℕ
wrong_line ops names clause line t = codes "bug: " ++ (codes "wrong instance of clause " ++ wrong_rest ops names clause line t)

abbrev uncovered_line : Table → List (List ℕ) → Term → List ℕ
uncovered_line ops names goal = codes "bug: " ++ (codes "uncovered goal: " ++ atom_text ops names goal)

abbrev descent_line : ℕ → List ℕ
descent_line n = codes "no bug: " ++ (codes "all " ++ (decimal n ++ codes " calls descend"))

-- Of a clause's instance.

wrong_text : (ops : Table) (names : List (List ℕ)) (clause line : ℕ) (t : Tuple) → text_of ops names (entry.Found (WrongInstance clause t) line) ≡ wrong_line ops names clause line t ++ 10 ∷ []
unfolding text_of finding_text
wrong_text ops names clause line t =
    let c = decimal clause in
    let l = decimal line in
    let x = clause_text ops names t in
    let place = clause_place clause line in
    -- to the right, step by step
    append_assoc (codes "bug: wrong instance of " ++ place ++ codes ": ") x (10 ∷ [])
    ∙ append_assoc (codes "bug: wrong instance of " ++ place) (codes ": ") (x ++ 10 ∷ [])
    ∙ append_assoc (codes "bug: wrong instance of ") place (58 ∷ 32 ∷ (x ++ 10 ∷ []))
    ∙ ap (λ r. codes "bug: wrong instance of " ++ r)
    (append_assoc (codes "clause " ++ c ++ codes ", line ") l (58 ∷ 32 ∷ (x ++ 10 ∷ []))
    ∙ append_assoc (codes "clause " ++ c) (codes ", line ") (l ++ (58 ∷ 32 ∷ (x ++ 10 ∷ [])))
    ∙ append_assoc (codes "clause ") c (codes ", line " ++ (l ++ (58 ∷ 32 ∷ (x ++ 10 ∷ [])))))
    ∙ sym (ap (λ r. codes "bug: wrong instance of clause " ++ r)
    (append_assoc c (codes ", line " ++ (l ++ (58 ∷ 32 ∷ x))) (10 ∷ [])
    ∙ ap (λ r. c ++ (codes ", line " ++ r)) (append_assoc l (58 ∷ 32 ∷ x) (10 ∷ []))))

same_wrong : (ops : Table) (names : List (List ℕ)) (clause line : ℕ) (t : Tuple) → text_of ops names (entry.Found (WrongInstance clause (canonical_tuple t)) line) ≡ wrong_line ops names clause line t ++ 10 ∷ []
same_wrong ops names clause line t = wrong_text ops names clause line (canonical_tuple t)
    ∙ ap (λ (u : Tuple). (codes "bug: " ++ (codes "wrong instance of clause " ++ (decimal clause ++ (codes ", line " ++ (decimal line ++ (codes ": " ++ written ops names (clause_term u) 1200)))))) ++ 10 ∷ []) (canonical_tuple-again t)

wrong_form : (ops : Table) (names : List (List ℕ)) (clause line : ℕ) (t : Tuple) → clause < 4294967296 → line < 4294967296 → form_in (wrong_line ops names clause line t) ≡ Framed (Instance clause line) (clause_text ops names t)
unfolding form_in
wrong_form ops names clause line t lc ll =
    let x = clause_text ops names t in
    ap (λ o. if_some o (λ (a : Led). if_some (led_by (codes ": ") a.rest) (placed_form a.number) Unread) Unread) (led-low 44 (codes " line ") clause (decimal line ++ (codes ": " ++ x)) lc (omega arith))
    ∙ ap (λ o. if_some o (placed_form clause) Unread) (led-high 58 (codes " ") line x ll (omega arith))

module _ {names : List (List ℕ)} (reader : Reader names) (ops : Table) (table : IsTable ops) (all : AreNames names) where
  pub wrong_found-says : (clause line : ℕ) (t : Tuple) → clause < 4294967296 → line < 4294967296 → IsClauseTellable ops names t → IsShort (text_of ops names (entry.Found (WrongInstance clause t) line))
      → Says reader ops (text_of ops names (entry.Found (WrongInstance clause t) line)) (claims_of (entry.Found (WrongInstance clause t) line))
  wrong_found-says clause line t lc ll k short =
      let x = clause_text ops names t in
      let w = wrong_line ops names clause line t in
      let w_short = line-short w (subst IsShort (wrong_text ops names clause line t) short) in
      let x_short : IsShort (as_clause x) = as-short x
      (drop-front 2 (codes ": ") x (drop-front 2 (decimal line) (codes ": " ++ x) (drop-front 2 (codes ", line ") (decimal line ++ (codes ": " ++ x))
      (drop-front 2 (decimal clause) (codes ", line " ++ (decimal line ++ (codes ": " ++ x))) (behind-two (codes "bug: wrong instance of clause ") (wrong_rest ops names clause line t) 28 refl w_short))))) in
      framed-says reader ops w (text_of ops names (entry.Found (WrongInstance clause t) line)) (entry.Found (WrongInstance clause (canonical_tuple t)) line)
      (record {
        frame = Instance clause line;
        text = x;
        term = clause_term (canonical_tuple t);
        form = wrong_form ops names clause line t lc ll;
        read = clause-read reader ops table all t k x_short;
        entry = ap (λ (u : Tuple). Some (entry.Found (WrongInstance clause u) line)) (clause-back reader ops table all t k);
        same = same_wrong ops names clause line t;
        whole = break-append (codes "bug: wrong instance of clause ") (wrong_rest ops names clause line t) (codes-break (codes "bug: wrong instance of clause ") refl)
            (break-append (decimal clause) (codes ", line " ++ (decimal line ++ (codes ": " ++ x))) (decimal-break clause)
            (break-append (codes ", line ") (decimal line ++ (codes ": " ++ x)) (codes-break (codes ", line ") refl)
            (break-append (decimal line) (codes ": " ++ x) (decimal-break line) (refl, (refl, clause-break reader ops table all t k)))));
        alone = refl;
      })
      (wrong_text ops names clause line t)

  -- Of a goal.

  uncovered_form : (goal : Term) → form_in (uncovered_line ops names goal) ≡ Framed OfGoal (atom_text ops names goal)
  unfolding form_in
  uncovered_form goal = refl

  pub uncovered-says : (goal : Term) (line : ℕ) → IsTellable ops names goal → IsShort (text_of ops names (entry.Found (Uncovered goal) line))
      → Says reader ops (text_of ops names (entry.Found (Uncovered goal) line)) (claims_of (entry.Found (Uncovered goal) line))
  unfolding text_of finding_text
  uncovered-says goal line t short =
      let w = uncovered_line ops names goal in
      framed-says reader ops w (w ++ 10 ∷ []) (entry.Found (Uncovered (canonical goal)) 0)
      (record {
        frame = OfGoal;
        text = atom_text ops names goal;
        term = canonical goal;
        form = uncovered_form goal;
        read = atom-read reader ops table all goal t (behind-short (codes "bug: uncovered goal: ") (atom_text ops names goal) 19 refl (line-short w short));
        entry = refl;
        same = ap (λ x. codes "bug: uncovered goal: " ++ goal_text ops names x ++ 10 ∷ []) (canonical-canonical goal);
        whole = break-append (codes "bug: uncovered goal: ") (atom_text ops names goal) (codes-break (codes "bug: uncovered goal: ") refl) (written-break ops names (canonical goal) 999);
        alone = refl;
      })
      refl

-- Of a chain.

descent_text : (ops : Table) (names : List (List ℕ)) (n : ℕ) → text_of ops names (entry.AllDescend n) ≡ descent_line n ++ 10 ∷ []
unfolding text_of
descent_text ops names n = append_assoc (codes "no bug: all ") (decimal n) (codes " calls descend\n") ∙ ap (λ r. codes "no bug: all " ++ r) (sym (append_assoc (decimal n) (codes " calls descend") (10 ∷ [])))

descent_form : (n : ℕ) → n < 4294967296 → form_in (descent_line n) ≡ Descent n
unfolding form_in
descent_form n l = ap (λ o. if_some o (λ (a : Led). Descent a.number) Unread) (led-low 32 (codes "calls") n (codes " descend") l (omega arith))

pub descent-says : {names : List (List ℕ)} (reader : Reader names) (ops : Table) (n : ℕ) → n < 4294967296 → Says reader ops (text_of ops names (entry.AllDescend n)) (claims_of (entry.AllDescend n))
descent-says {names} reader ops n l = subst (λ x. Says reader ops x (Descends n ∷ [])) (sym (descent_text ops names n))
    (one_line (descent_line n) (ap (called_by (descent_line n)) (descent_form n l))
    (record {
      whole = break-append (codes "no bug: all ") (decimal n ++ codes " calls descend") (codes-break (codes "no bug: all ") refl) (break-append (decimal n) (codes " calls descend") (decimal-break n) (codes-break (codes " calls descend") refl));
      alone = refl;
      says = λ in_group lines. ap (claim_by reader ops in_group (descent_line n) lines) (descent_form n l) ∙ claim-back ops names (descent_line n ++ 10 ∷ []) (entry.AllDescend n) (descent_text ops names n);
    })
    no_line)
