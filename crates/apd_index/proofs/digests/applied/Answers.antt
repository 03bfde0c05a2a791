use Rattle.std.proofs.Common.{◌≡◌, ap, ◌∙◌, arith, List, ℕ, ◌-◌, drop, length, take}
use Rattle.apd_term.specs.Term.{arity_of}
use Rattle.apd_marks.specs.Mixing.{mixed}
use Rattle.apd_index.specs.Subterms.{bare, joined}
use Rattle.apd_index.proofs.Mixed.{arguments-left, arguments-taken}
use Rattle.apd_index.proofs.digests.applied.Goals as goal

pub returns-clause-digest : goal.returns-clause-digest
returns-clause-digest c =
    let xs : List ℕ = c.args.stack.now.items in
    let ys : List ℕ = c.deref.result.now in
    let rest : ℕ = c.saturating_sub-rest.result in
    let l : c.len.result ≡ length xs = omega (arith, c.args.stack.now.ok.0) in
    let r : c.saturating_sub-rest.result ≡ c.len.result - arity_of c.args.symbol = omega arith in
    c.joined-digest.ensures ∙ ap (λ (m : ℕ). joined m (take (length ys - rest) (drop rest ys))) (c.mixed.ensures ∙ ap (mixed 1) c.bare.ensures)
    ∙ ap (joined (mixed 1 (bare c.args.symbol))) (arguments-taken xs ys (arity_of c.args.symbol) c.len.result rest c.deref.ensures.value l r)

pub returns-clause-rest : goal.returns-clause-rest
returns-clause-rest c =
    let xs : List ℕ = c.args.stack.now.items in
    let l : c.len.result ≡ length xs = omega (arith, c.args.stack.now.ok.0) in
    let r : c.saturating_sub-rest.result ≡ c.len.result - arity_of c.args.symbol = omega arith in
    arguments-left xs c.truncate.new.self.items (arity_of c.args.symbol) c.len.result c.saturating_sub-rest.result l r c.truncate.ensures.items
