use Rattle.std.proofs.Common.{get_or, refl, sym, ◌∙◌}
use Rattle.apd_read.specs.declared.lexeme.Lexeme.{Lexeme}
use Rattle.apd_read.proofs.Clauses.{taken_start, taken_more, taken_end, taken_all, taken_named, taken_kept, taken_grown, ends_last, own_token, blank}
use Rattle.apd_read.proofs.lexemes.push_lexemes.Goals as goal

pub tokens-init : goal.tokens-init
tokens-init c =
    (rw (c.requires.none, c.requires.no_vars) (taken_start c.args.names.now c.args.text.now c.args.tokens.now c.args.at c.requires.within), c.requires.indexed)

pub returns-then-ends_clause-clause-lexemes : goal.returns-then-ends_clause-clause-lexemes
returns-then-ends_clause-clause-lexemes c =
    let ts = c.args.tokens.now in
    let t = get_or ts c.tokens.i blank in
    let l : Lexeme = record { sort = c.in_ok-sort.sort; spaced = t.spaced; start = t.start } in
    rw c.in_ok-push.ensures.items
    (taken_end c.tokens.invariant.0 c.sort_of.ensures.grown t l c.sort_of.new.vars.texts c.tokens-test.true (own_token ts c.tokens.i blank c.tokens-test.true) (c.in_ok-sort.ensures.sort, refl, refl)
    (sym c.ends_clause.ensures ∙ c.if-ends_clause.true))

pub tokens-preserved : goal.tokens-preserved
tokens-preserved c =
    let ts = c.args.tokens.now in
    let t = get_or ts c.tokens.i blank in
    let l : Lexeme = record { sort = c.in_ok-sort.sort; spaced = t.spaced; start = t.start } in (
      rw c.in_ok-push.ensures.items
          (taken_more c.tokens.invariant.0 c.sort_of.ensures.grown t l c.sort_of.new.vars.texts c.tokens-test.true (own_token ts c.tokens.i blank c.tokens-test.true) (c.in_ok-sort.ensures.sort, refl, refl) c.in_ok-sort.ensures.named
          (sym c.ends_clause.ensures ∙ c.if-ends_clause.false)),
      c.in_ok-sort.ensures.indexed,
    )

pub returns-clause-lexemes : goal.returns-clause-lexemes
returns-clause-lexemes c = taken_all c.tokens.invariant.0 c.tokens-test.false

pub returns-then-ends_clause-clause-last : goal.returns-then-ends_clause-clause-last
returns-then-ends_clause-clause-last c = rw c.in_ok-push.ensures.items (ends_last c.tokens.invariant.0 _)

pub returns-then-ends_clause-clause-named : goal.returns-then-ends_clause-clause-named
returns-then-ends_clause-clause-named c = rw c.in_ok-push.ensures.items (taken_named c.tokens.invariant.0 c.sort_of.ensures.grown _ c.in_ok-sort.ensures.named)

pub returns-in_err-push-clause-kept : goal.returns-in_err-push-clause-kept
returns-in_err-push-clause-kept c = taken_kept c.tokens.invariant.0 c.sort_of.ensures.grown c.tokens-test.true

pub returns-then-ends_clause-clause-grown : goal.returns-then-ends_clause-clause-grown
returns-then-ends_clause-clause-grown c = rw c.in_ok-push.ensures.items (taken_grown c.tokens.invariant.0 c.sort_of.ensures.grown _)

pub returns-then-ends_clause-clause-kept : goal.returns-then-ends_clause-clause-kept
returns-then-ends_clause-clause-kept c = taken_kept c.tokens.invariant.0 c.sort_of.ensures.grown c.tokens-test.true
