use Rattle.std.proofs.Common.{◌≡◌, ◌<◌, ℕ, List, true, false, arith, sym, ◌∙◌}
use Rattle.std.specs.Prelude.{Some, None}
use Rattle.std.proofs.lemmas.Result.{IfOk-weaker}
use Rattle.apd_ops.specs.Table.{Table, prefix_in, infix_in}
use Rattle.apd_term.specs.Names.{text_of_name}
use Rattle.apd_term.specs.declared.term.NameId.{NameId}
use Rattle.apd_term.specs.declared.standard.TheConstants.{CELL, CURLY}
use Rattle.apd_write.specs.Writing.{is_same_name}
use Rattle.apd_write.proofs.Opened.{function_opens, one_is_function, two_is_function, many_is_function, prefix_opens, infix_opens, list_opens, curly_opens}
use Rattle.apd_write.proofs.opening.open_compound.Goals as goal
use Rattle.apd_write.proofs.opening.open_compound.Goals.{in-1+in-None+else-eq, in-2-2+in_default-infix, in_default}

pub returns-in-Some : goal.returns-in-Some
returns-in-Some c =
    let ops : Table = c.args.ops.now in
    let names : List (List ℕ) = c.args.names.now in
    let is : prefix_in ops c.args.name.0 ≡ Some (c.in-Some.priority, c.in-Some.kind) = sym c.prefix.ensures ∙ c.in-Some.is in
    rw c.in-1.is (IfOk-weaker c.open_prefix.result _ _ (λ next put.
    prefix_opens ops names c.args.name (c.in-Some.priority, c.in-Some.kind) c.args.max c.args.frames.now.items c.open_prefix.new.frames.items c.args.out.now c.open_prefix.new.out next is put) c.open_prefix.ensures)

pub returns-in-None : goal.returns-in-None
returns-in-None c =
    let ops : Table = c.args.ops.now in
    let names : List (List ℕ) = c.args.names.now in
    let is : prefix_in ops c.args.name.0 ≡ None = sym c.prefix.ensures ∙ c.in-None.is in
    let curly : is_same_name c.args.name CURLY ≡ true = sym c.eq.ensures ∙ c.if-eq.true in
    rw c.in-1.is (IfOk-weaker c.open_curly.result _ _ (λ next put.
    curly_opens ops names c.args.name c.args.max c.args.frames.now.items c.open_curly.new.frames.items c.args.out.now c.open_curly.new.out next is curly put) c.open_curly.ensures)

pub returns-in-2 : goal.returns-in-2
returns-in-2 c =
    let ops : Table = c.args.ops.now in
    let names : List (List ℕ) = c.args.names.now in
    let cell : is_same_name c.args.name CELL ≡ true = sym c.if-eq-2.ensures in
    rw c.in-2.is (IfOk-weaker c.open_list.result _ _ (λ next put.
    list_opens ops names c.args.name c.args.max c.args.frames.now.items c.open_list.new.frames.items c.args.out.now c.open_list.new.out next cell put) c.open_list.ensures)

pub returns-in-Some-infix : goal.returns-in-Some-infix
returns-in-Some-infix c =
    let ops : Table = c.args.ops.now in
    let names : List (List ℕ) = c.args.names.now in
    let is : infix_in ops c.args.name.0 ≡ Some (c.in-Some-infix.priority, c.in-Some-infix.kind) = sym c.infix.ensures ∙ c.in-Some-infix.is in
    let no_cell : is_same_name c.args.name CELL ≡ false = sym c.if-eq-2.ensures in
    rw c.in-2.is (IfOk-weaker c.open_infix.result _ _ (λ next put.
    infix_opens ops names c.args.name (c.in-Some-infix.priority, c.in-Some-infix.kind) c.args.max c.args.frames.now.items c.open_infix.new.frames.items c.args.out.now c.open_infix.new.out next is no_cell put) c.open_infix.ensures)

pub returns : goal.returns
returns c =
    let ops : Table = c.args.ops.now in
    let names : List (List ℕ) = c.args.names.now in
    let f : NameId = c.args.name in
    IfOk-weaker c.open_function.result _ _ (λ next put.
    function_opens ops names f c.args.count c.args.max c.args.frames.now.items c.args.frames.now.items c.args.out.now c.open_function.new.out next c.requires
    (λ ps long. elim c.match-count.branch [
      | in-1+in-None+else-eq w ↦ one_is_function ops f (text_of_name names f) c.args.max (sym w.prefix.ensures ∙ w.in-None.is) (sym w.eq.ensures ∙ w.if-eq.false) ps (long ∙ w.in-1.is)
      | in-2-2+in_default-infix w ↦ two_is_function ops f (text_of_name names f) c.args.max (sym w.infix.ensures ∙ w.in_default-infix.is) (sym w.if-eq-2.ensures) ps (long ∙ w.in-2.is)
      | in_default w ↦ let some : 0 < c.args.count = c.requires in let many : 2 < c.args.count = omega arith in many_is_function ops f (text_of_name names f) c.args.max ps (omega (arith, long, many))
    ]) (put c.args.frames.now.items)) c.open_function.ensures
