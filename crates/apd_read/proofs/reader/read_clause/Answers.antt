use Rattle.std.proofs.Common.{◌≡◌, ℕ, ◌*◌, ◌-◌, ◌≤◌, List, length, get_or, refl, sym, ap, subst, arith}
use Rattle.std.proofs.lemmas.Option.{slice_get-get_or}
use Rattle.apd_token.proofs.Counting.{tokens_few, tokens_behind}
use Rattle.apd_term.specs.Term.{Term, size, Occurs}
use Rattle.apd_term.specs.Named.{IsNamed}
use Rattle.apd_term.proofs.FirstNames.{standard_few}
use Rattle.apd_read.specs.Answer.{HasLexemes}
use Rattle.apd_read.proofs.Clauses.{blank, lexemes_few, lexemes_from}
use Rattle.apd_read.proofs.Placed.{reading_under, fault_under, fills_within}
use Rattle.apd_read.proofs.Ending.{all_read}
use Rattle.apd_read.proofs.Growing.{grown_at_most}
use Rattle.apd_read.proofs.Weights.{term_few, filled_some}
use Rattle.apd_read.proofs.Numbers.{numbered, vars_few, named}
use Rattle.apd_read.proofs.reader.read_clause.Goals as goal

pub lexemes-requires-clause-few : goal.lexemes-requires-clause-few
lexemes-requires-clause-few c =
    rw c.as_slice.ensures (let few = tokens_few c.args.text.now c.args.tokens.now c.requires.tokens in omega arith)

pub lexemes-requires-clause-room : goal.lexemes-requires-clause-room
lexemes-requires-clause-room c =
    let text = c.args.text.now in
    let ts = c.args.tokens.now in
    let at = c.args.at in
    let t = get_or ts at blank in
    let room = c.requires.room t (slice_get-get_or ts at blank c.requires.within) in
    let behind = tokens_behind text ts at blank c.requires.tokens c.requires.within in
    rw c.as_slice.ensures (omega arith)

pub answer-requires-clause-short : goal.answer-requires-clause-short
answer-requires-clause-short c =
    let few = tokens_few c.args.text.now c.args.tokens.now c.requires.tokens in
    let lexemes = lexemes_few c.args.tokens.now c.args.at (rw c.as_slice.ensures at c.in_ok-clause.ensures.lexemes) in
    omega arith

pub answer-requires-clause-low : goal.answer-requires-clause-low
answer-requires-clause-low c =
    let few = tokens_few c.args.text.now c.args.tokens.now c.requires.tokens in
    omega arith

pub returns-in-Ok-clause-ok : goal.returns-in-Ok-clause-ok
returns-in-Ok-clause-ok c =
    let e = c.in_ok-clause.ensures in
    λ more.
    reading_under c.args.ops.now c.lexemes.new.names more c.args.text.now c.args.tokens.now c.args.at c.in_ok-clause.clause.lexemes.items c.in_ok-clause.clause.vars c.in-Ok.read
    e.named (rw c.as_slice.ensures at e.lexemes) c.in-Ok.ensures.ok

pub returns-in-Err-clause-err : goal.returns-in-Err-clause-err
returns-in-Err-clause-err c =
    let e = c.in_ok-clause.ensures in
    λ more.
    fault_under c.args.ops.now c.lexemes.new.names more c.args.text.now c.args.tokens.now c.args.at c.in_ok-clause.clause.lexemes.items c.in_ok-clause.clause.vars c.in-Err.fault
    e.named (rw c.as_slice.ensures at e.lexemes) c.in-Err.ensures.err

pub returns-in-Ok-clause-names : goal.returns-in-Ok-clause-names
returns-in-Ok-clause-names c =
    let r = c.in-Ok.ensures.ok in
    let all : length c.in_ok-clause.clause.lexemes.items ≤ r.count = all_read r.fills refl c.in_ok-clause.ensures.last in
    let next = r.next in
    grown_at_most c.args.names.now c.lexemes.new.names (length c.in_ok-clause.clause.lexemes.items) (c.in-Ok.read.next - c.args.at) (omega arith) c.in_ok-clause.ensures.grown

pub returns-in-Ok-clause-size : goal.returns-in-Ok-clause-size
returns-in-Ok-clause-size c =
    let clause : HasLexemes c.lexemes.new.names c.args.text.now c.args.tokens.now c.args.at =
    record { lexemes = c.in_ok-clause.clause.lexemes.items; vars = c.in_ok-clause.clause.vars; are = rw c.as_slice.ensures at c.in_ok-clause.ensures.lexemes } in
    let r = c.in-Ok.ensures.ok in
    subst (λ t. size t ≤ 2 * length c.args.text.now) (sym r.term)
    (term_few c.args.ops.now c.lexemes.new.names c.args.text.now c.args.tokens.now c.args.at clause r.phrase r.count c.requires.tokens r.fills)

pub returns-in-Ok-clause-forward : goal.returns-in-Ok-clause-forward
returns-in-Ok-clause-forward c =
    let r = c.in-Ok.ensures.ok in
    let some = filled_some r.fills in
    let within = fills_within r.fills in
    let few = lexemes_from c.args.tokens.now c.args.at (rw c.as_slice.ensures at c.in_ok-clause.ensures.lexemes) in
    let at = c.requires.within in
    let next = r.next in
    (omega arith, omega arith)

pub returns-in-Ok-clause-few_vars : goal.returns-in-Ok-clause-few_vars
returns-in-Ok-clause-few_vars c =
    let e : length c.in-Ok.read.vars ≡ length c.in_ok-clause.clause.vars = ap length c.in-Ok.ensures.ok.names in
    let few = tokens_few c.args.text.now c.args.tokens.now c.requires.tokens in
    let vars = vars_few c.args.tokens.now c.args.at (rw c.as_slice.ensures at c.in_ok-clause.ensures.lexemes) in
    omega arith

pub returns-in-Ok-clause-vars : goal.returns-in-Ok-clause-vars
returns-in-Ok-clause-vars c =
    let r = c.in-Ok.ensures.ok in
    let h : (v : ℕ) → Occurs v r.phrase.term → (1 ≤ v) × (v ≤ length c.in_ok-clause.clause.vars) = numbered (rw c.as_slice.ensures at c.in_ok-clause.ensures.lexemes) r.fills in
    subst (λ (w : List (List ℕ)). (v : ℕ) → Occurs v c.in-Ok.read.term → (1 ≤ v) × (v ≤ length w)) (sym r.names)
    (subst (λ (t : Term). (v : ℕ) → Occurs v t → (1 ≤ v) × (v ≤ length c.in_ok-clause.clause.vars)) (sym r.term) h)

pub returns-in-Ok-clause-named : goal.returns-in-Ok-clause-named
returns-in-Ok-clause-named c =
    let r = c.in-Ok.ensures.ok in
    let names = c.lexemes.new.names in
    let e = c.in_ok-clause.ensures in
    let standard = standard_few c.args.names.now c.count-count.ensures.standard in
    subst (λ (t : Term). IsNamed (length names) t) (sym r.term)
    (named c.args.names.now names (length c.in_ok-clause.clause.lexemes.items) standard e.grown e.named r.fills)
