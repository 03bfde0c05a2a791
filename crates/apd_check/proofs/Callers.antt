-- The line of a call says what is right at the place where its second part is the caller's text, or nowhere.
use Rattle.std.proofs.Common.{◌≡◌, ◌⊎◌, inl, inr, ◌↔◌, ◌≤◌, ◌<◌, ◌+◌, ◌∙◌, ℕ, Bool, true, false, List, length, take, drop, Option, None, Some, refl, sym, ap, subst, arith}
use Rattle.std.specs.Prelude.{IfSome, IsTrue, if◌then◌else◌, is_some, not, slice_get}
use Rattle.std.specs.Bool.{then_some}
use Rattle.std.specs.Option.{option_and_then, option_map, unwrap_or}
use Rattle.std.specs.Str.{bytes_eq}
use Rattle.std.proofs.lemmas.Bool.Decides.{leb_tells}
use Rattle.std.proofs.lemmas.List.{drop_all}
use Rattle.apd_term.specs.Canonical.{canonical}
use Rattle.apd_term.specs.Growth.{Grown}
use Rattle.apd_term.specs.Term.{Term}
use Rattle.apd_term.proofs.Variants.{canonical-canonical}
use Rattle.apd_ops.specs.Table.{Table}
use Rattle.apd_read.specs.Reader.{Reader}
use Rattle.apd_clauses.specs.declared.clause.Clause.{Clause}
use Rattle.apd_ports.specs.declared.point.Point.{Point}
use Rattle.apd_record.specs.Recorded.{Recorded}
use Rattle.apd_record.specs.Index.{IsWithin}
use Rattle.apd_record.specs.Reading.{call_atom, no_point, row_of}
use Rattle.apd_record.specs.Sound.{IsKept as IsKeptRecord}
use Rattle.apd_record.proofs.Told.{kept-within}
use Rattle.apd_answers.specs.declared.finding.Finding.{Finding}
use Rattle.apd_answers.specs.declared.finding.Finding.TheVariants.{WrongInstance, Uncovered, Violation, Candidates}
use Rattle.apd_text.specs.Dialogues.{atom_text}
use Rattle.apd_text.specs.Lines.{goal_text}
use Rattle.apd_text.specs.declared.entry.Entry.{Entry}
use Rattle.apd_findings.specs.Calling.{IsBox}
use Rattle.apd_talk.specs.Speech.{Lasting}
use Rattle.apd_claims.specs.Claims.{call_entry, claim_of, is_text, written}
use Rattle.apd_claims.specs.Parting.{caller_at, claim_parted, claim_with, is_callers}
use Rattle.apd_parts.specs.Parts.{Led, box_first, if_some}
use Rattle.apd_claims.specs.Reading.{term_in}
use Rattle.apd_claims.specs.Texts.{KeepsFew}
use Rattle.apd_claims.specs.declared.claim.Claim.{Claim}
use Rattle.apd_claims.specs.declared.claim.Claim.TheVariants.{Finds}
use Rattle.apd_claims.specs.declared.form.Calling.{Calling}
use Rattle.apd_claims.specs.declared.parting.CallLine.{CallLine}
use Rattle.apd_text.specs.declared.check.Why.{Why}
use Rattle.apd_lines.proofs.Growing.{Grown-self, Grown-more}
use Rattle.apd_check.specs.Checked.{IsFound, IsFoundIn, IsJudged, IsRightFinding}
use Rattle.apd_check.specs.Steps.{IsCallText, may_be}
use Rattle.apd_check.specs.declared.state.LogState.{LogState}

-- What is read where the line is parted is a call by the caller of the line, whose text stands there.

abbrev IsCallOf : Table → List (List ℕ) → Calling → List ℕ → Claim → Type 0
IsCallOf ops names c rest (Finds (Violation clause goal caller callee p q) line) = (caller ≡ c.caller) × (bytes_eq (atom_text ops names p) rest ≡ true)
IsCallOf ops names c rest claim = ⊥

some-of : {A : Type 0} {a b : A} → Some a ≡ Some b → a ≡ b
some-of e = cc

module _ {names : List (List ℕ)} (reader : Reader names) (ops : Table) (x : CallLine) where
  entry-call : (a : Led) (b : ℕ) (q p : Term) (claim : Claim) (t : Bool) → is_callers ops names a.rest (Some (call_entry x.calling b q p)) ≡ t
      → (if t then option_and_then (written ops names x.whole) (Some (call_entry x.calling b q p)) else None) ≡ Some claim → IsCallOf ops names x.calling a.rest claim
  entry-call a b q p claim false own e = absurd (cc)
  entry-call a b q p claim true own e = by (is_text ops names x.whole (call_entry x.calling b q p)) e
    where
      by : (t : Bool) → then_some t (claim_of (call_entry x.calling b q p)) ≡ Some claim → IsCallOf ops names x.calling a.rest claim
      by false f = absurd (cc)
      by true f = subst (IsCallOf ops names x.calling a.rest) (some-of f) (refl, own)

  with-call : (front : List ℕ) (a : Led) (claim : Claim) → claim_with reader ops x front a ≡ Some claim → IsCallOf ops names x.calling a.rest claim
  with-call front a claim e = by (term_in reader ops front) (term_in reader ops a.rest) e
    where
      by : (q p : Option Term) → (let o : Option Entry = if_some q (λ callee. option_map (call_entry x.calling a.number callee) p) None in
          if is_callers ops names a.rest o then option_and_then (written ops names x.whole) o else None) ≡ Some claim → IsCallOf ops names x.calling a.rest claim
      by None p f = absurd (cc)
      by (Some q) None f = absurd (cc)
      by (Some q) (Some p) f = entry-call a a.number q p claim (is_callers ops names a.rest (Some (call_entry x.calling a.number q p))) refl f

  -- so its text is that of the caller in the record, where the finding is right
  module _ (program : List Clause) (s : LogState) (place : ℕ) where
    found-text : (a : Led) → box_first (drop place x.text) ≡ Some a → IsFound program s (claim_parted reader ops x place) → bytes_eq (atom_text ops names (call_atom s.history x.calling.caller)) a.rest ≡ true
    found-text a there f = by f.0 f.3 (with-call (take place x.text) a (Finds f.0 f.1) (ap (option_and_then (claim_with reader ops x (take place x.text))) (sym there) ∙ f.2))
      where
        by : (finding : Finding) → IsRightFinding program s finding f.1 → IsCallOf ops names x.calling a.rest (Finds finding f.1) → bytes_eq (atom_text ops names (call_atom s.history x.calling.caller)) a.rest ≡ true
        by (WrongInstance clause t) right h = absurd h
        by (Uncovered goal) right h = absurd h
        by (Candidates cs) right h = absurd h
        by (Violation clause goal caller callee p q) right h =
            let is : canonical (call_atom s.history caller) ≡ p = right.by_replies.call.callers in
            let own : canonical (call_atom s.history x.calling.caller) ≡ p = ap (λ (n : ℕ). canonical (call_atom s.history n)) (sym h.0) ∙ is in
            let twice : atom_text ops names (call_atom s.history x.calling.caller) ≡ atom_text ops names p =
            ap (λ (t : Term). goal_text ops names t) (sym (canonical-canonical (call_atom s.history x.calling.caller)) ∙ ap canonical own) in
            ap (λ (t : List ℕ). bytes_eq t a.rest) twice ∙ h.1

    -- nothing is found where the words don't stand
    none-there : box_first (drop place x.text) ≡ None → IsFound program s (claim_parted reader ops x place) → ⊥
    none-there none f = let e : None ≡ Some (Finds f.0 f.1) = ap (option_and_then (claim_with reader ops x (take place x.text))) (sym none) ∙ f.2 in absurd (cc)

    -- nor where the text isn't the one that is wanted
    none-wanted : (wanted : Option (List ℕ)) (a : Led) → box_first (drop place x.text) ≡ Some a → IfSome wanted (λ t. t ≡ atom_text ops names (call_atom s.history x.calling.caller)) → may_be wanted a.rest ≡ false
        → IsFound program s (claim_parted reader ops x place) → ⊥
    none-wanted None a there is not f = absurd (cc)
    none-wanted (Some t) a there is not f = let e : true ≡ false = sym (found-text a there f) ∙ ap (λ (u : List ℕ). bytes_eq u a.rest) (sym is) ∙ not in absurd (cc)

    pub no-caller : caller_at x place ≡ None → IsFound program s (claim_parted reader ops x place) → ⊥
    no-caller none f = by (box_first (drop place x.text)) refl none
      where
        by : (o : Option Led) → box_first (drop place x.text) ≡ o → option_map (λ (a : Led). a.rest) o ≡ None → ⊥
        by None e g = none-there e f
        by (Some a) e g = absurd (cc)

    pub not-wanted : (first : List (List ℕ)) → Grown first names → (wanted : Option (List ℕ)) (rest : List ℕ) → caller_at x place ≡ Some rest
        → IfSome wanted (IsCallText ops first s.history x.calling.caller) → may_be wanted rest ≡ false → IsFound program s (claim_parted reader ops x place) → ⊥
    not-wanted first grew wanted rest there known not f = by wanted (box_first (drop place x.text)) refl there known not
      where
        by : (w : Option (List ℕ)) (o : Option Led) → box_first (drop place x.text) ≡ o → option_map (λ (a : Led). a.rest) o ≡ Some rest → IfSome w (IsCallText ops first s.history x.calling.caller) → may_be w rest ≡ false → ⊥
        by w None e g h n = absurd (cc)
        by None (Some a) e g h n = absurd (cc)
        by (Some t) (Some a) e g h n = none-wanted (Some t) a e (h names grew) (ap (bytes_eq t) (some-of g) ∙ n) f

    -- the caller of a finding is a box
    pub none-boxed : IsKeptRecord s.history → ¬ IsBox s.history x.calling.caller → IsFound program s (claim_parted reader ops x place) → ⊥
    none-boxed kept out f = led (box_first (drop place x.text)) refl
      where
        within : IsWithin s.history
        within = kept-within s.history kept

        owner-there : (o : Option Point) → ((p : Point) → o ≡ Some p → p.owner ≤ length s.history.boxes) → (n : ℕ) → (unwrap_or o no_point).owner ≡ n → n ≤ length s.history.boxes
        owner-there None h n e = omega (arith, e)
        owner-there (Some p) h n e = let l = h p refl in omega (arith, e, l)

        call : (finding : Finding) → IsRightFinding program s finding f.1 → (a : Led) → IsCallOf ops names x.calling a.rest (Finds finding f.1) → ⊥
        call (WrongInstance clause t) right a h = absurd h
        call (Uncovered goal) right a h = absurd h
        call (Candidates cs) right a h = absurd h
        call (Violation clause goal caller callee p q) right a h =
            let c = right.by_replies.call in
            let few : caller ≤ length s.history.boxes = owner-there (slice_get s.history.points (row_of s.history callee).from) (λ p at. within.owner (row_of s.history callee).from p at) caller c.owner in
            out (subst (IsBox s.history) h.0 (c.caller_is_box, few))

        led : (o : Option Led) → box_first (drop place x.text) ≡ o → ⊥
        led None e = none-there e f
        led (Some a) e = call f.0 f.3 a (with-call (take place x.text) a (Finds f.0 f.1) (ap (option_and_then (claim_with reader ops x (take place x.text))) (sym e) ∙ f.2))

-- What was judged.

pub right-judged : (program : List Clause) (s : LogState) (finding : Finding) (line : ℕ) (judged : Option Why) (b : Bool) → is_some judged ≡ not b → IsJudged program s (Finds finding line) judged
    → IsTrue b ↔ IsFound program s (Some (Finds finding line))
right-judged program s finding line None true is j = (λ _. (finding, line, refl, j), λ _. refl)
right-judged program s finding line None false is j = absurd (let e : false ≡ true = is in cc)
right-judged program s finding line (Some w) true is j = absurd (let e : true ≡ false = is in cc)
right-judged program s finding line (Some w) false is j = (λ no. absurd (cc), λ f. absurd (j.0 (alike f.0 f.1 (some-of f.2) f.3)))
  where
    alike : (other : Finding) (at : ℕ) → Finds finding line ≡ Finds other at → IsRightFinding program s other at → IsRightFinding program s finding line
    alike other at e right =
        let f : other ≡ finding = cc in
        let l : at ≡ line = cc in
        subst (λ (x : Finding). IsRightFinding program s x line) f (subst (λ (n : ℕ). IsRightFinding program s other n) l right)

-- Nothing that is said is no finding.

pub nothing-found : (program : List Clause) (s : LogState) → IsTrue false ↔ IsFound program s None
nothing-found program s = (λ no. absurd (cc), λ f. absurd (let e : None ≡ Some (Finds f.0 f.1) = f.2 in cc))

pub no-finding : (program : List Clause) (s : LogState) (claim : Claim) → ((finding : Finding) (line : ℕ) → claim ≡ Finds finding line → ⊥) → IsTrue false ↔ IsFound program s (Some claim)
no-finding program s claim other = (λ no. absurd (cc), λ f. absurd (other f.0 f.1 (some-of f.2)))

-- From place to place.

either : (place j : ℕ) → (place ≤ j) ⊎ (j < place)
either place j = elim (leb_tells place j) [ inl x ↦ inl x.1 | inr x ↦ inr x.1 ]

module _ (program : List Clause) (ops : Table) (s : LogState) (x : CallLine) where
  abbrev pub IsFoundHere : {n : List (List ℕ)} → Reader n → ℕ → Type 0
  IsFoundHere reader place = IsFound program s (claim_parted reader ops x place)

  -- nothing is found before this place
  pub record Unfound (first names : List (List ℕ)) (place : ℕ) : Type 0 where
    pub grown : Grown first names
    pub few : KeepsFew first names
    pub none : Lasting names (λ n. (reader : Reader n) → (j : ℕ) → j < place → ¬ IsFoundHere reader j)

  pub Unfound-start : (names : List (List ℕ)) → Unfound names names 0
  Unfound-start names = record { grown = Grown-self names; few = λ l. l; none = λ n g reader j l. absurd (omega (arith, l)) }

  module _ (first names later : List (List ℕ)) (place : ℕ) (b : Bool) (before : Unfound first names place) (grew : Grown names later) (keeps : KeepsFew names later)
      (tells : Lasting later (λ n. (reader : Reader n) → IsTrue b ↔ IsFoundHere reader place)) where
    pub Unfound-more : b ≡ false → Unfound first later (place + 1)
    Unfound-more fails = record {
      grown = Grown-more first names later before.grown grew;
      few = λ l. keeps (before.few l);
      none = λ n g reader j l. by n g reader j l (either place j);
    }
      where
        none-here : (n : List (List ℕ)) → Grown later n → (reader : Reader n) → ¬ IsFoundHere reader place
        none-here n g reader f = let e : true ≡ false = sym ((tells n g reader).1 f) ∙ fails in absurd (cc)

        by : (n : List (List ℕ)) → Grown later n → (reader : Reader n) → (j : ℕ) → j < place + 1 → (place ≤ j) ⊎ (j < place) → ¬ IsFoundHere reader j
        by n g reader j l (inl at) = let same : place ≡ j = omega (arith, at, l) in subst (λ (k : ℕ). ¬ IsFoundHere reader k) same (none-here n g reader)
        by n g reader j l (inr at) = before.none n (Grown-more names later n grew g) reader j at

    pub Unfound-found : b ≡ true → Lasting later (λ n. (reader : Reader n) → IsTrue true ↔ IsFoundIn program s (claim_parted reader ops x))
    Unfound-found holds = λ n g reader. (λ _. (place, (tells n g reader).0 holds), λ _. refl)

  pub Unfound-end : (first names : List (List ℕ)) (place : ℕ) → Unfound first names place → length x.text ≤ place
      → Lasting names (λ n. (reader : Reader n) → IsTrue false ↔ IsFoundIn program s (claim_parted reader ops x))
  Unfound-end first names place before all = λ n g reader. (λ no. absurd (cc), λ f. absurd (by n g reader f.0 f.1 (either place f.0)))
    where
      beyond : (n : List (List ℕ)) (reader : Reader n) (j : ℕ) → length x.text ≤ j → IsFoundHere reader j → ⊥
      beyond n reader j l f = none-there reader ops x program s j (ap box_first (drop_all j x.text l)) f

      by : (n : List (List ℕ)) → Grown names n → (reader : Reader n) → (j : ℕ) → IsFoundHere reader j → (place ≤ j) ⊎ (j < place) → ⊥
      by n g reader j f (inl at) = beyond n reader j (omega (arith, at, all)) f
      by n g reader j f (inr at) = before.none n g reader j at f

-- The caller's text.

pub call-wanted : (ops : Table) (names : List (List ℕ)) (R : Recorded) (box_no : ℕ) (a : Term) (wanted : Option (List ℕ)) → a ≡ call_atom R box_no
    → IfSome wanted (λ t. Lasting names (λ n. t ≡ atom_text ops n a)) → IfSome wanted (IsCallText ops names R box_no)
call-wanted ops names R box_no a None is h = tt
call-wanted ops names R box_no a (Some t) is h = λ n grew. h n grew ∙ ap (atom_text ops n) is

-- what is its text stays so
pub later-wanted : (ops : Table) (first later : List (List ℕ)) (R : Recorded) (box_no : ℕ) (wanted : Option (List ℕ)) → Grown first later → IfSome wanted (IsCallText ops first R box_no)
    → IfSome wanted (IsCallText ops later R box_no)
later-wanted ops first later R box_no None grew h = tt
later-wanted ops first later R box_no (Some t) grew h = λ n more. h n (Grown-more first later n grew more)
