-- The line of a call that isn't below its caller says it.
use Rattle.std.proofs.Common.{◌≡◌, ℕ, ◌+◌, ◌<◌, ◌≤◌, List, [], ◌∷◌, ◌++◌, length, take, refl, sym, ◌∙◌, ap, subst, append_assoc, arith, true, Some, None}
use Rattle.std.specs.Prelude.{codes, if◌then◌else◌}
use Rattle.std.specs.Fmt.{decimal}
use Rattle.std.specs.Str.{bytes_eq}
use Rattle.std.specs.Option.{option_map, option_and_then, option_or}
use Rattle.std.proofs.lemmas.Bool.{le-leb}
use Rattle.apd_base.specs.declared.limits.TheConstants.{MAX_FILE}
use Rattle.apd_term.specs.Canonical.{canonical}
use Rattle.apd_term.specs.Term.{Term}
use Rattle.apd_term.proofs.Variants.{canonical-canonical}
use Rattle.apd_ops.specs.Table.{Table, IsTable}
use Rattle.apd_read.specs.Reader.{Reader}
use Rattle.apd_answers.specs.declared.finding.Finding.TheVariants.{Violation}
use Rattle.apd_reading_back.specs.Law.{AreNames}
use Rattle.apd_text.specs.Dialogues.{atom_text, call_text, clause_place, finding_text, not_below_text}
use Rattle.apd_text.specs.Lines.{goal_text}
use Rattle.apd_text.specs.Entries.{text_of}
use Rattle.apd_text.specs.declared.entry.Entry.{Entry}
use Rattle.apd_text.specs.declared.entry.Entry.TheVariants as entry
use Rattle.apd_claims.specs.declared.claim.Claim.TheVariants.{Finds}
use Rattle.apd_claims.specs.declared.form.Calling.{Calling}
use Rattle.apd_claims.specs.declared.form.LineForm.TheVariants.{Call, Unread}
use Rattle.apd_claims.specs.declared.parting.CallLine.{CallLine}
use Rattle.apd_claims.specs.Claims.{call_entry, called, written}
use Rattle.apd_claims.specs.Forms.{call_line_form, caller_form, form_in, goal_form, with_newline}
use Rattle.apd_claims.specs.Parting.{called_by, claim_parted, claim_with, is_callers}
use Rattle.apd_parts.specs.Parts.{Led, at_start, after, box_first, cut_last, if_some, led_by, onto_part}
use Rattle.apd_claims.specs.Reading.{as_clause, term_in}
use Rattle.apd_written.specs.Claims.{claims_of}
use Rattle.apd_written.specs.Says.{HasNoBreak, Says, call_line, no_line}
use Rattle.apd_written.specs.Texts.{IsShort}
use Rattle.apd_written.specs.Uttered.{IsViolationTellable}
use Rattle.apd_written.proofs.Saying.{break-append}
use Rattle.apd_written.proofs.Breaks.{codes-break, decimal-break, written-break}
use Rattle.apd_written.proofs.Parts.{HasNo, cut_last-at, cut_last-second, decimal-has_no, has_no-append, as-short, behind-two, drop-front, drop-rest, led, led-high, led-low, line-short, same_bytes}
use Rattle.apd_written.proofs.Parted.{dropped-front, led_first-back, taken-front}
use Rattle.apd_written.proofs.Entries.{written-back}
use Rattle.apd_written.proofs.Symptoms.{atom-read}

-- the front of the line, and what stands behind it
abbrev with_front : ℕ → ℕ → ℕ → List ℕ → List ℕ
with_front clause line goal r = codes "bug: call not below its caller: clause " ++ (decimal clause ++ (codes ", line " ++ (decimal line ++ (codes ", goal " ++ (decimal goal ++ (codes ": " ++ r))))))

-- the call, its box and its caller
abbrev called_text : List ℕ → ℕ → List ℕ → List ℕ
called_text q b p = q ++ (codes " (box " ++ (decimal b ++ (codes ") called by " ++ p)))

abbrev boxed_text : List ℕ → ℕ → List ℕ → ℕ → List ℕ
boxed_text q b p a = called_text q b p ++ (codes " (box " ++ (decimal a ++ codes ")"))

front-append : (clause line goal : ℕ) (r x : List ℕ) → with_front clause line goal r ++ x ≡ with_front clause line goal (r ++ x)
front-append clause line goal r x =
    let c = decimal clause in
    let l = decimal line in
    let g = decimal goal in
    ap (λ t. codes "bug: call not below its caller: clause " ++ t)
    (append_assoc c (codes ", line " ++ (l ++ (codes ", goal " ++ (g ++ (codes ": " ++ r))))) x
    ∙ ap (λ t. c ++ (codes ", line " ++ t)) (append_assoc l (codes ", goal " ++ (g ++ (codes ": " ++ r))) x
    ∙ ap (λ t. l ++ (codes ", goal " ++ t)) (append_assoc g (codes ": " ++ r) x)))

-- to the right
below-right : (clause line goal : ℕ) (r : List ℕ) → not_below_text clause line goal ++ r ≡ with_front clause line goal r
below-right clause line goal r =
    let front = codes "bug: call not below its caller: " in
    let place = clause_place clause line in
    let behind = codes ", goal " ++ (decimal goal ++ (codes ": " ++ r)) in
    append_assoc (front ++ place ++ codes ", goal " ++ decimal goal) (codes ": ") r
    ∙ append_assoc (front ++ place ++ codes ", goal ") (decimal goal) (codes ": " ++ r)
    ∙ append_assoc (front ++ place) (codes ", goal ") (decimal goal ++ (codes ": " ++ r))
    ∙ append_assoc front place behind
    ∙ ap (λ t. front ++ t)
    (append_assoc (codes "clause " ++ decimal clause ++ codes ", line ") (decimal line) behind
    ∙ append_assoc (codes "clause " ++ decimal clause) (codes ", line ") (decimal line ++ behind)
    ∙ append_assoc (codes "clause ") (decimal clause) (codes ", line " ++ (decimal line ++ behind)))

-- an atom with its box
abbrev one_call : List ℕ → ℕ → List ℕ
one_call t n = t ++ codes " (box " ++ decimal n ++ codes ")"

call-right : (t : List ℕ) (n : ℕ) (r : List ℕ) → one_call t n ++ r ≡ t ++ (codes " (box " ++ (decimal n ++ (codes ")" ++ r)))
call-right t n r = append_assoc (t ++ codes " (box " ++ decimal n) (codes ")") r
    ∙ append_assoc (t ++ codes " (box ") (decimal n) (codes ")" ++ r)
    ∙ append_assoc t (codes " (box ") (decimal n ++ (codes ")" ++ r))

called-append : (q : List ℕ) (b : ℕ) (p x : List ℕ) → called_text q b p ++ x ≡ called_text q b (p ++ x)
called-append q b p x =
    append_assoc q (codes " (box " ++ (decimal b ++ (codes ") called by " ++ p))) x
    ∙ ap (λ t. q ++ (codes " (box " ++ t)) (append_assoc (decimal b) (codes ") called by " ++ p) x)

-- both calls
calls-right : (q : List ℕ) (b : ℕ) (p : List ℕ) (a : ℕ) → one_call q b ++ (codes " called by " ++ (one_call p a ++ 10 ∷ [])) ≡ boxed_text q b p a ++ 10 ∷ []
calls-right q b p a =
    call-right q b (codes " called by " ++ (one_call p a ++ 10 ∷ []))
    ∙ ap (λ t. called_text q b t) (call-right p a (10 ∷ []))
    ∙ sym (append_assoc (called_text q b p) (codes " (box " ++ (decimal a ++ codes ")")) (10 ∷ [])
    ∙ called-append q b p ((codes " (box " ++ (decimal a ++ codes ")")) ++ 10 ∷ [])
    ∙ ap (λ t. called_text q b (p ++ (codes " (box " ++ t))) (append_assoc (decimal a) (codes ")") (10 ∷ [])))

module _ (ops : Table) (names : List (List ℕ)) (clause line goal a b : ℕ) where
  abbrev whole_of : Term → Term → List ℕ
  whole_of p q = with_front clause line goal (boxed_text (atom_text ops names q) b (atom_text ops names p) a)

  text-right : (p q : Term) → text_of ops names (entry.Found (Violation clause goal a b p q) line) ≡ whole_of p q ++ 10 ∷ []
  unfolding text_of finding_text
  text-right p q =
      let n = not_below_text clause line goal in
      let cq = call_text ops names q b in
      let k = codes " called by " in
      let cp = call_text ops names p a in
      append_assoc (n ++ cq ++ k) cp (10 ∷ []) ∙ append_assoc (n ++ cq) k (cp ++ 10 ∷ []) ∙ append_assoc n cq (k ++ (cp ++ 10 ∷ []))
      ∙ below-right clause line goal (cq ++ (k ++ (cp ++ 10 ∷ [])))
      ∙ ap (with_front clause line goal) (calls-right (atom_text ops names q) b (atom_text ops names p) a)
      ∙ sym (front-append clause line goal (boxed_text (atom_text ops names q) b (atom_text ops names p) a) (10 ∷ []))

  same_text : (p q : Term) → text_of ops names (entry.Found (Violation clause goal a b (canonical p) (canonical q)) line) ≡ whole_of p q ++ 10 ∷ []
  same_text p q = text-right (canonical p) (canonical q)
      ∙ ap (λ t. with_front clause line goal (boxed_text (goal_text ops names (canonical (canonical q))) b (goal_text ops names t) a) ++ 10 ∷ []) (canonical-canonical p)
      ∙ ap (λ t. with_front clause line goal (boxed_text (goal_text ops names t) b (atom_text ops names p) a) ++ 10 ∷ []) (canonical-canonical q)

  module _ (lc : clause < 4294967296) (ll : line < 4294967296) (lg : goal ≤ 255) (la : a < 4294967296) (lb : b < 4294967296) where
    abbrev calling : Calling
    calling = record { clause = clause; line = line; goal = goal; caller = a }

    -- ` (box ` doesn't stand behind where it last does
    none_further : cut_last (codes " (box ") (codes "(box " ++ (decimal a ++ codes ")")) ≡ None
    none_further =
        let rest = codes "box " ++ (decimal a ++ codes ")") in
        let no : HasNo 40 rest = (refl, (refl, (refl, (refl, has_no-append 40 (decimal a) (codes ")") (decimal-has_no 40 a (omega arith) (omega (arith, la))) (refl, tt))))) in
        ap (λ o. option_or (option_map (onto_part 40) o) (option_map at_start (after (codes " (box ") (40 ∷ rest)))) (cut_last-second 32 40 (codes "box ") rest no)

    form : (q p : List ℕ) → form_in (with_front clause line goal (boxed_text q b p a)) ≡ Call calling (called_text q b p)
    unfolding form_in
    form q p =
        let inner = boxed_text q b p a in
        let behind_goal = decimal goal ++ (codes ": " ++ inner) in
        let behind_line = decimal line ++ (codes ", goal " ++ behind_goal) in
        ap (λ o. if_some o (λ (x : Led). if_some (led_by (codes ", goal ") x.rest) (call_line_form x.number) Unread) Unread) (led-low 44 (codes " line ") clause behind_line lc (omega arith))
        ∙ ap (λ o. if_some o (call_line_form clause) Unread) (led-low 44 (codes " goal ") line behind_goal ll (omega arith))
        ∙ ap (λ o. if_some o (goal_form clause line) Unread) (led-high 58 (codes " ") goal inner (omega (arith, lg)) (omega arith))
        ∙ ap (λ c. if c then if_some (cut_last (codes " (box ") inner) (caller_form clause line goal) Unread else Unread) (le-leb goal 255 lg)
        ∙ ap (λ o. if_some o (caller_form clause line goal) Unread) (cut_last-at 32 (codes "(box ") (called_text q b p) (decimal a ++ codes ")") none_further)
        ∙ ap (λ o. if_some o (λ (x : Led). Call (record { clause = clause; line = line; goal = goal; caller = x.number }) (called_text q b p)) Unread) (led-low 41 [] a [] la (omega arith))

    front-break : (r : List ℕ) → HasNoBreak r → HasNoBreak (with_front clause line goal r)
    front-break r h =
        let g = decimal goal ++ (codes ": " ++ r) in
        let l = decimal line ++ (codes ", goal " ++ g) in
        break-append (codes "bug: call not below its caller: clause ") (decimal clause ++ (codes ", line " ++ l)) (codes-break (codes "bug: call not below its caller: clause ") refl)
        (break-append (decimal clause) (codes ", line " ++ l) (decimal-break clause)
        (break-append (codes ", line ") l (codes-break (codes ", line ") refl)
        (break-append (decimal line) (codes ", goal " ++ g) (decimal-break line)
        (break-append (codes ", goal ") g (codes-break (codes ", goal ") refl)
        (break-append (decimal goal) (codes ": " ++ r) (decimal-break goal) (refl, (refl, h)))))))

    boxed-break : (q p : List ℕ) → HasNoBreak q → HasNoBreak p → HasNoBreak (boxed_text q b p a)
    boxed-break q p h k =
        break-append (called_text q b p) (codes " (box " ++ (decimal a ++ codes ")"))
        (break-append q (codes " (box " ++ (decimal b ++ (codes ") called by " ++ p))) h
        (break-append (codes " (box ") (decimal b ++ (codes ") called by " ++ p)) (codes-break (codes " (box ") refl)
        (break-append (decimal b) (codes ") called by " ++ p) (decimal-break b) (break-append (codes ") called by ") p (codes-break (codes ") called by ") refl) k))))
        (break-append (codes " (box ") (decimal a ++ codes ")") (codes-break (codes " (box ") refl) (break-append (decimal a) (codes ")") (decimal-break a) (refl, tt)))

-- both atoms are short where the line is
atoms-short : (clause line goal a b : ℕ) (q p : List ℕ) → IsShort (with_front clause line goal (boxed_text q b p a)) → IsShort (as_clause q) × IsShort (as_clause p)
atoms-short clause line goal a b q p short =
    let r = boxed_text q b p a in
    let g = decimal goal ++ (codes ": " ++ r) in
    let l = decimal line ++ (codes ", goal " ++ g) in
    let r_two : 2 + length r ≤ MAX_FILE =
    drop-front 2 (codes ": ") r (drop-front 2 (decimal goal) (codes ": " ++ r) (drop-front 2 (codes ", goal ") g (drop-front 2 (decimal line) (codes ", goal " ++ g)
    (drop-front 2 (codes ", line ") l (drop-front 2 (decimal clause) (codes ", line " ++ l) (behind-two (codes "bug: call not below its caller: clause ") (decimal clause ++ (codes ", line " ++ l)) 37 refl short)))))) in
    let called : 2 + length (called_text q b p) ≤ MAX_FILE = drop-rest 2 (called_text q b p) (codes " (box " ++ (decimal a ++ codes ")")) r_two in
    let behind_q = decimal b ++ (codes ") called by " ++ p) in (
      as-short q (drop-rest 2 q (codes " (box " ++ behind_q) called),
      as-short p (drop-front 2 (codes ") called by ") p (drop-front 2 (decimal b) (codes ") called by " ++ p) (drop-front 2 (codes " (box ") behind_q (drop-front 2 q (codes " (box " ++ behind_q) called)))),
    )

module _ {names : List (List ℕ)} (reader : Reader names) (ops : Table) (clause line goal a b : ℕ) (p q : Term) (table : IsTable ops) (all : AreNames names) (v : IsViolationTellable ops names clause line goal a b p q) where
  abbrev whole : List ℕ
  whole = whole_of ops names clause line goal a b p q

  abbrev found : Entry
  found = entry.Found (Violation clause goal a b (canonical p) (canonical q)) line

  abbrev made : Calling
  made = record { clause = clause; line = line; goal = goal; caller = a }

  abbrev q_text : List ℕ
  q_text = atom_text ops names q

  abbrev p_text : List ℕ
  p_text = atom_text ops names p

  -- what stands behind the call
  abbrev behind : List ℕ
  behind = codes " (box " ++ (decimal b ++ (codes ") called by " ++ p_text))

  abbrev call : CallLine
  call = record { calling = made; text = q_text ++ behind; whole = with_newline whole }

  -- both atoms are read, and the caller's text is its own
  both-read : IsShort whole → called reader ops made q_text (led b p_text) ≡ Some found
  both-read short =
      let s = atoms-short clause line goal a b q_text p_text short in
      ap (λ o. if_some o (λ callee. option_map (call_entry made b callee) (term_in reader ops p_text)) None) (atom-read reader ops table all q v.what s.0)
      ∙ ap (option_map (call_entry made b (canonical q))) (atom-read reader ops table all p v.by s.1)

  callers-own : is_callers ops names p_text (Some found) ≡ true
  callers-own = ap (λ t. bytes_eq (goal_text ops names t) p_text) (canonical-canonical p) ∙ same_bytes p_text

  -- the line is parted where it was written
  parted : IsShort whole → claim_parted reader ops call (length q_text) ≡ Some (Finds (Violation clause goal a b (canonical p) (canonical q)) line)
  parted short =
      ap (λ t. option_and_then (claim_with reader ops call (take (length q_text) (q_text ++ behind))) (box_first t)) (dropped-front q_text behind)
      ∙ ap (option_and_then (claim_with reader ops call (take (length q_text) (q_text ++ behind)))) (led_first-back 41 (codes " called by ") b p_text refl v.callee_few)
      ∙ ap (λ t. claim_with reader ops call t (led b p_text)) (taken-front q_text behind)
      ∙ ap (λ o. if is_callers ops names p_text o then option_and_then (written ops names (with_newline whole)) o else None) (both-read short)
      ∙ ap (λ c. if c then written ops names (with_newline whole) found else None) callers-own
      ∙ written-back ops names (with_newline whole) found (same_text ops names clause line goal a b p q)

  pub violation-says : IsShort (text_of ops names (entry.Found (Violation clause goal a b p q) line))
      → Says reader ops (text_of ops names (entry.Found (Violation clause goal a b p q) line)) (claims_of (entry.Found (Violation clause goal a b p q) line))
  violation-says short =
      let is = text-right ops names clause line goal a b p q in
      let lc : clause < 4294967296 = v.clause_few in
      let ll : line < 4294967296 = v.line_few in
      let la : a < 4294967296 = v.caller_few in
      let lb : b < 4294967296 = v.callee_few in
      subst (λ t. Says reader ops t (Finds (Violation clause goal a b (canonical p) (canonical q)) line ∷ [])) (sym is)
      (call_line whole
      (record {
        whole = front-break ops names clause line goal a b lc ll v.goal_few la lb (boxed_text q_text b p_text a)
            (boxed-break ops names clause line goal a b lc ll v.goal_few la lb q_text p_text (written-break ops names (canonical q) 999) (written-break ops names (canonical p) 999));
        alone = refl;
        call = call;
        is = ap (called_by whole) (form ops names clause line goal a b lc ll v.goal_few la lb q_text p_text);
        place = length q_text;
        says = parted (line-short whole (subst IsShort is short));
      })
      no_line)
