use Rattle.std.proofs.Common.{rules, ◌≡◌, ◌∙◌, sym, ap, ℕ, ◌+◌, ◌<◌, ◌≤◌, length, List, [], ◌∷◌, ◌++◌, get_or, drop}
use Rattle.apd_term.specs.Term.{Term}
use Rattle.apd_text.specs.Lines.{binding, bindings, elements}
use Rattle.apd_by_definition.proofs.Binding.{bindings_next, bindings_short, bindings_end}
use Rattle.apd_by_definition.proofs.text.bindings.Goals as goal

pub returns-in_default : goal.returns-in_default
returns-in_default c =
    let whole : c.as_slice-values.result.now ≡ elements c.args.list.now = search rules in
    let over : length c.as_slice-values.result.now ≤ c.vars.i = search rules in
    bindings_short c.args.ops.now c.args.names.now c.args.vars.now c.as_slice-values.result.now c.vars.i c.vars.texts over c.vars.invariant
    ∙ ap (λ (ts : List Term). bindings c.args.ops.now c.args.names.now c.args.vars.now ts) whole

pub vars-preserved : goal.vars-preserved
vars-preserved c =
    let vars = c.args.vars.now in
    let values = c.as_slice-values.result.now in
    let name = c.index-vars-i.result in
    let value = c.in-Some.value.now in
    let there : c.vars.i < length values = search rules in
    let here : get_or values c.vars.i value ≡ value = search rules in
    let added : c.push.new.self ≡ c.vars.texts ++ binding c.args.ops.now c.args.names.now name value ∷ [] = search rules in
    let rest : List (List ℕ) = bindings c.args.ops.now c.args.names.now (drop (c.vars.i + 1) vars) (drop (c.vars.i + 1) values) in
    bindings_next c.args.ops.now c.args.names.now vars values c.vars.i c.vars.texts name value c.vars-test.true there c.vars.invariant
    ∙ ap (λ (n : List ℕ). (c.vars.texts ++ binding c.args.ops.now c.args.names.now n (get_or values c.vars.i value) ∷ []) ++ rest) (sym c.index-vars-i.is)
    ∙ ap (λ (t : Term). (c.vars.texts ++ binding c.args.ops.now c.args.names.now name t ∷ []) ++ rest) here
    ∙ ap (λ (ts : List (List ℕ)). ts ++ rest) (sym added)

pub returns : goal.returns
returns c =
    let whole : c.as_slice-values.result.now ≡ elements c.args.list.now = search rules in
    bindings_end c.args.ops.now c.args.names.now c.args.vars.now c.as_slice-values.result.now c.vars.i c.vars.texts c.vars-test.false c.vars.invariant
    ∙ ap (λ (ts : List Term). bindings c.args.ops.now c.args.names.now c.args.vars.now ts) whole
