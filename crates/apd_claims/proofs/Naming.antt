-- The names of what is made of a term are among those of the term; and a claim stays where more names come.
use Rattle.std.proofs.Common.{◌≡◌, ◌==◌, ◌++◌, ℕ, Bool, true, false, List, [], ◌∷◌, length, Option, None, Some, refl, sym, ap, ◌∙◌}
use Rattle.std.specs.Prelude.{IfSome, if◌then◌else◌}
use Rattle.std.specs.Bool.{then_some}
use Rattle.std.specs.Str.{bytes_eq}
use Rattle.std.specs.List.{AllByRecursion}
use Rattle.std.specs.Option.{option_and_then, option_map, option_or}
use Rattle.apd_term.specs.Growth.{Grown}
use Rattle.apd_term.specs.Named.{AllNamed, IsNamed, TupleIsNamed}
use Rattle.apd_term.specs.Term.{Term, variable, integer, compound, none, more}
use Rattle.apd_term.specs.declared.instance.Instance.{Instance}
use Rattle.apd_term.specs.declared.standard.TheConstants.{COMMA, NECK}
use Rattle.apd_term.specs.StandardNames.{standard_names}
use Rattle.apd_term.proofs.FirstNames.{standard_few}
use Rattle.apd_term.proofs.Named.{IsNamed-canonical, IsNamed-more, TupleIsNamed-canonical, TupleIsNamed-more}
use Rattle.apd_ops.specs.Table.{Table}
use Rattle.apd_answers.specs.Questions.{canonical_question}
use Rattle.apd_answers.specs.declared.question.Question.{Question}
use Rattle.apd_answers.specs.declared.question.Question.TheVariants as asks
use Rattle.apd_answers.specs.declared.question.Reply.{Reply}
use Rattle.apd_known.specs.Told.{truth_told, values_told}
use Rattle.apd_known.proofs.Telling.{truth_told_named, values_told_named}
use Rattle.apd_text.specs.Entries.{text_of}
use Rattle.apd_text.specs.Named.{EntryIsNamed, HasStandardNames, QuestionIsNamed, ReplyIsNamed}
use Rattle.apd_text.specs.declared.entry.Entry.{Entry}
use Rattle.apd_text.proofs.MoreNames.{text_of-more}
use Rattle.apd_lines.proofs.Growing.{Grown-length}
use Rattle.apd_claims.specs.declared.form.Calling.{Calling}
use Rattle.apd_claims.specs.declared.form.NumberedQuestion.{NumberedQuestion}
use Rattle.apd_claims.specs.declared.form.LineFrame.{LineFrame}
use Rattle.apd_claims.specs.declared.form.LineFrame.TheVariants.{Truth, Cover, Order, Reply as Answer, Instance as WrongOne, Uncovered}
use Rattle.apd_claims.specs.Claims.{asked, call_entry, claim_of, entry_for, fact, goals_in, is_text, pair_in, replied, reply_in, tuple_in, written}
use Rattle.apd_parts.specs.Parts.{if_some}
use Rattle.apd_claims.specs.Saying.{group_entry, instance_with}

-- Terms.

goals_in-named : (n : ℕ) (t : Term) → IsNamed n t → AllNamed n (goals_in t)
goals_in-named n (variable v) named = (tt, tt)
goals_in-named n (integer i) named = (tt, tt)
goals_in-named n (compound f none) named = (named, tt)
goals_in-named n (compound f (more a none)) named = (named, tt)
goals_in-named n (compound f (more a (more b none))) named = by (f.0 == COMMA.0) (goals_in-named n b named.1.1.0)
  where
    by : (x : Bool) → AllNamed n (goals_in b) → AllNamed n (if x then a ∷ goals_in b else compound f (more a (more b none)) ∷ [])
    by true rest = (named.1.0, rest)
    by false rest = (named, tt)
goals_in-named n (compound f (more a (more b (more c ts)))) named = (named, tt)

pub tuple_in-named : (n : ℕ) (t : Term) → IsNamed n t → TupleIsNamed n (tuple_in t)
tuple_in-named n (variable v) named = (named, tt)
tuple_in-named n (integer i) named = (named, tt)
tuple_in-named n (compound f none) named = (named, tt)
tuple_in-named n (compound f (more a none)) named = (named, tt)
tuple_in-named n (compound f (more a (more b none))) named = by (f.0 == NECK.0)
  where
    by : (x : Bool) → TupleIsNamed n (if x then record { head = a; body = goals_in b } else fact (compound f (more a (more b none))))
    by true = (named.1.0, goals_in-named n b named.1.1.0)
    by false = (named, tt)
tuple_in-named n (compound f (more a (more b (more c ts)))) named = (named, tt)

question-named : (n : ℕ) (q : Question) → QuestionIsNamed n q → QuestionIsNamed n (canonical_question q)
question-named n (asks.True a) named = IsNamed-canonical n a named
question-named n (asks.Covers t) named = TupleIsNamed-canonical n t named
question-named n (asks.Below q p) named = (IsNamed-canonical n q named.0, IsNamed-canonical n p named.1)

reply_in-named : (n : ℕ) (t : Term) → IsNamed n t → IfSome (reply_in t) (ReplyIsNamed n)
reply_in-named n t named = either (truth_told t) (values_told t) (λ r e. truth_told_named n t r e) (λ r e. values_told_named n t r named e)
  where
    either : (x y : Option Reply) → ((r : Reply) → x ≡ Some r → ReplyIsNamed n r) → ((r : Reply) → y ≡ Some r → ReplyIsNamed n r) → IfSome (option_or x y) (ReplyIsNamed n)
    either None None h k = tt
    either None (Some r) h k = k r refl
    either (Some r) y h k = h r refl

-- Entries.

asked-named : (n : ℕ) (place : NumberedQuestion) (q : Question) → HasStandardNames n → QuestionIsNamed n q → EntryIsNamed n (asked place q)
asked-named n place q standard named = (standard, question-named n q named)

order-named : (n : ℕ) (place : NumberedQuestion) (t : Term) → HasStandardNames n → IsNamed n t → IfSome (option_map (asked place) (pair_in t)) (EntryIsNamed n)
order-named n place (variable v) standard named = tt
order-named n place (integer i) standard named = tt
order-named n place (compound f none) standard named = tt
order-named n place (compound f (more a none)) standard named = tt
order-named n place (compound f (more a (more b none))) standard named = asked-named n place (asks.Below a b) standard (named.1.0, named.1.1.0)
order-named n place (compound f (more a (more b (more c ts)))) standard named = tt

reply-named : (n : ℕ) (left : Option ℕ) (by_reference : Bool) (o : Option Reply) → HasStandardNames n → IfSome o (ReplyIsNamed n) → IfSome (option_map (replied left by_reference) o) (EntryIsNamed n)
reply-named n left by_reference None standard named = tt
reply-named n left by_reference (Some r) standard named = (standard, named)

entry_for-named : (n : ℕ) (frame : LineFrame) (t : Term) → HasStandardNames n → IsNamed n t → IfSome (entry_for frame t) (EntryIsNamed n)
entry_for-named n (Truth place) t standard named = asked-named n place (asks.True t) standard named
entry_for-named n (Cover place) t standard named = asked-named n place (asks.Covers (tuple_in t)) standard (tuple_in-named n t named)
entry_for-named n (Order place) t standard named = order-named n place t standard named
entry_for-named n (Answer left by_reference) t standard named = reply-named n left by_reference (reply_in t) standard (reply_in-named n t named)
entry_for-named n (WrongOne clause line) t standard named = (standard, tuple_in-named n t named)
entry_for-named n Uncovered t standard named = (standard, named)

pub framed-named : (names : List (List ℕ)) (frame : LineFrame) (o : Option Term) → Grown standard_names names → IfSome o (IsNamed (length names)) → IfSome (option_and_then (entry_for frame) o) (EntryIsNamed (length names))
framed-named names frame None standard named = tt
framed-named names frame (Some t) standard named = entry_for-named (length names) frame t (standard_few names standard) named

pub group-named : (names : List (List ℕ)) (o : Option (List Instance)) → Grown standard_names names → IfSome o (AllByRecursion (λ (c : Instance). TupleIsNamed (length names) c.tuple)) → IfSome (option_map group_entry o) (EntryIsNamed (length names))
group-named names None standard named = tt
group-named names (Some cs) standard named = (standard_few names standard, named)

-- More names.

pub named-more : (names later : List (List ℕ)) (t : Term) → Grown names later → IsNamed (length names) t → IsNamed (length later) t
named-more names later t g named = IsNamed-more (length names) (length later) t (Grown-length names later g) named

pub instances-later : (names later : List (List ℕ)) (cs : List Instance) → Grown names later → AllByRecursion (λ (c : Instance). TupleIsNamed (length names) c.tuple) cs → AllByRecursion (λ (c : Instance). TupleIsNamed (length later) c.tuple) cs
instances-later names later [] g named = tt
instances-later names later (c ∷ cs) g named = (TupleIsNamed-more (length names) (length later) c.tuple (Grown-length names later g) named.0, instances-later names later cs g named.1)

pub instances-push : (n : ℕ) (cs : List Instance) (c : Instance) → AllByRecursion (λ (c : Instance). TupleIsNamed n c.tuple) cs → TupleIsNamed n c.tuple → AllByRecursion (λ (c : Instance). TupleIsNamed n c.tuple) (cs ++ c ∷ [])
instances-push n [] c named last = (last, tt)
instances-push n (d ∷ cs) c named last = (named.0, instances-push n cs c named.1 last)

written-at : (ops : Table) (names later : List (List ℕ)) (text : List ℕ) (e : Entry) → Grown names later → EntryIsNamed (length names) e → is_text ops names text e ≡ is_text ops later text e
written-at ops names later text e g named =
    let same : text_of ops later e ≡ text_of ops names e = ap (λ (x : List (List ℕ)). text_of ops x e) g.1 ∙ text_of-more ops names g.0 e named in
    ap (λ (t : List ℕ). bytes_eq t text) (sym same)

pub written-later : (ops : Table) (names later : List (List ℕ)) (text : List ℕ) (e : Entry) (b : Bool) → Grown names later → EntryIsNamed (length names) e → b ≡ is_text ops names text e
    → then_some b (claim_of e) ≡ written ops later text e
written-later ops names later text e b g named is = ap (λ (x : Bool). then_some x (claim_of e)) (is ∙ written-at ops names later text e g named)

-- Calls and instances.

call-named : (n : ℕ) (c : Calling) (number : ℕ) (q : Term) (o : Option Term) → HasStandardNames n → IsNamed n q → IfSome o (IsNamed n) → IfSome (option_map (call_entry c number q) o) (EntryIsNamed n)
call-named n c number q None standard named other = tt
call-named n c number q (Some p) standard named other = (standard, (other, named))

pub calls-named : (names later : List (List ℕ)) (c : Calling) (number : ℕ) (q p : Option Term) → Grown names later → Grown standard_names later → IfSome q (IsNamed (length names)) → IfSome p (IsNamed (length later))
    → IfSome (if_some q (λ a. option_map (call_entry c number a) p) None) (EntryIsNamed (length later))
calls-named names later c number None p g standard named other = tt
calls-named names later c number (Some q) p g standard named other = call-named (length later) c number q p (standard_few later standard) (named-more names later q g named) other

pub instance-named : (n clause : ℕ) (o : Option Term) → IfSome o (IsNamed n) → IfSome (option_map (instance_with clause) o) (λ c. TupleIsNamed n c.tuple)
instance-named n clause None named = tt
instance-named n clause (Some t) named = tuple_in-named n t named
