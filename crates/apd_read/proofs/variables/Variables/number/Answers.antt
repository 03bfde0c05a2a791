use Rattle.std.proofs.Common.{◌≡◌, ◌+◌, ◌<◌, ◌≤◌, length, true, false, sym, ◌∙◌, ap, subst, arith}
use Rattle.apd_read.specs.Lexemes.{is_anonymous}
use Rattle.apd_read.specs.Variables.{IsIndexed}
use Rattle.apd_read.proofs.Indexed.{place_of_anonymous, with_anonymous, indexed_anonymous, found_by, fresh_by, place_within}
use Rattle.apd_read.proofs.variables.Variables.number.Goals as goal

pub returns-then-is_anonymous-clause-number : goal.returns-then-is_anonymous-clause-number
returns-then-is_anonymous-clause-number c =
    let anonymous : is_anonymous c.args.text ≡ true = ap is_anonymous (sym c.bytes.ensures) ∙ sym c.is_anonymous.ensures ∙ c.if-is_anonymous.true in
    let place = place_of_anonymous c.args.self.now.texts c.args.text anonymous in
    let count = c.len-count.ensures in
    omega arith

pub returns-then-is_anonymous-clause-all : goal.returns-then-is_anonymous-clause-all
returns-then-is_anonymous-clause-all c =
    let anonymous : is_anonymous c.args.text ≡ true = ap is_anonymous (sym c.bytes.ensures) ∙ sym c.is_anonymous.ensures ∙ c.if-is_anonymous.true in
    c.in_ok-push.ensures.ok ∙ sym (with_anonymous c.args.self.now.texts c.args.text anonymous)

pub returns-then-is_anonymous-clause-indexed : goal.returns-then-is_anonymous-clause-indexed
returns-then-is_anonymous-clause-indexed c =
    let v = c.args.self.now in
    let anonymous : is_anonymous c.args.text ≡ true = ap is_anonymous (sym c.bytes.ensures) ∙ sym c.is_anonymous.ensures ∙ c.if-is_anonymous.true in
    subst (IsIndexed v.named v.places.items) (sym c.in_ok-push.ensures.ok) (indexed_anonymous v.named v.places.items v.texts c.requires.indexed c.args.text anonymous)

pub overflow_add-result-then-order-len : goal.overflow_add-result-then-order-len
overflow_add-result-then-order-len c =
    let v = c.args.self.now in
    let named : is_anonymous c.args.text ≡ false = ap is_anonymous (sym c.bytes.ensures) ∙ sym c.is_anonymous.ensures ∙ c.if-is_anonymous.false in
    let len = c.len.ensures in
    let within : c.in_ok-place.place < length v.places.items = omega arith in
    let f = found_by v.named v.places.items v.texts c.requires.indexed c.args.text c.intern.new.self c.bytes-2.result.now c.in_ok-place.place c.index.result.now c.bytes-2.ensures c.in_ok-place.ensures.names c.in_ok-place.ensures.place named within c.index.ensures in
    let place = f.1 in
    let few = place_within v.texts c.args.text in
    let room = c.requires.few in
    omega arith

pub returns-then-order-len-clause-number : goal.returns-then-order-len-clause-number
returns-then-order-len-clause-number c =
    let v = c.args.self.now in
    let named : is_anonymous c.args.text ≡ false = ap is_anonymous (sym c.bytes.ensures) ∙ sym c.is_anonymous.ensures ∙ c.if-is_anonymous.false in
    let len = c.len.ensures in
    let within : c.in_ok-place.place < length v.places.items = omega arith in
    let f = found_by v.named v.places.items v.texts c.requires.indexed c.args.text c.intern.new.self c.bytes-2.result.now c.in_ok-place.place c.index.result.now c.bytes-2.ensures c.in_ok-place.ensures.names c.in_ok-place.ensures.place named within c.index.ensures in
    ap (λ k. k + 1) f.1

pub returns-then-order-len-clause-all : goal.returns-then-order-len-clause-all
returns-then-order-len-clause-all c =
    let v = c.args.self.now in
    let named : is_anonymous c.args.text ≡ false = ap is_anonymous (sym c.bytes.ensures) ∙ sym c.is_anonymous.ensures ∙ c.if-is_anonymous.false in
    let len = c.len.ensures in
    let within : c.in_ok-place.place < length v.places.items = omega arith in
    let f = found_by v.named v.places.items v.texts c.requires.indexed c.args.text c.intern.new.self c.bytes-2.result.now c.in_ok-place.place c.index.result.now c.bytes-2.ensures c.in_ok-place.ensures.names c.in_ok-place.ensures.place named within c.index.ensures in
    f.2

pub returns-then-order-len-clause-indexed : goal.returns-then-order-len-clause-indexed
returns-then-order-len-clause-indexed c =
    let v = c.args.self.now in
    let named : is_anonymous c.args.text ≡ false = ap is_anonymous (sym c.bytes.ensures) ∙ sym c.is_anonymous.ensures ∙ c.if-is_anonymous.false in
    let len = c.len.ensures in
    let within : c.in_ok-place.place < length v.places.items = omega arith in
    let f = found_by v.named v.places.items v.texts c.requires.indexed c.args.text c.intern.new.self c.bytes-2.result.now c.in_ok-place.place c.index.result.now c.bytes-2.ensures c.in_ok-place.ensures.names c.in_ok-place.ensures.place named within c.index.ensures in
    subst (λ ns. IsIndexed ns v.places.items v.texts) (sym f.0) c.requires.indexed

pub returns-clause-number : goal.returns-clause-number
returns-clause-number c =
    let v = c.args.self.now in
    let named : is_anonymous c.args.text ≡ false = ap is_anonymous (sym c.bytes.ensures) ∙ sym c.is_anonymous.ensures ∙ c.if-is_anonymous.false in
    let len = c.len.ensures in
    let beyond : length v.places.items ≤ c.in_ok-place.place = omega arith in
    let f = fresh_by v.named v.places.items v.texts c.requires.indexed c.args.text c.intern.new.self c.bytes-2.result.now c.in_ok-place.place c.bytes-2.ensures c.in_ok-place.ensures.names c.in_ok-place.ensures.place named beyond in
    ap (λ k. k + 1) (c.len-count.ensures ∙ f.0)

pub returns-clause-all : goal.returns-clause-all
returns-clause-all c =
    let v = c.args.self.now in
    let named : is_anonymous c.args.text ≡ false = ap is_anonymous (sym c.bytes.ensures) ∙ sym c.is_anonymous.ensures ∙ c.if-is_anonymous.false in
    let len = c.len.ensures in
    let beyond : length v.places.items ≤ c.in_ok-place.place = omega arith in
    let f = fresh_by v.named v.places.items v.texts c.requires.indexed c.args.text c.intern.new.self c.bytes-2.result.now c.in_ok-place.place c.bytes-2.ensures c.in_ok-place.ensures.names c.in_ok-place.ensures.place named beyond in
    c.in_ok-push-3.ensures.ok ∙ f.1

pub returns-clause-indexed : goal.returns-clause-indexed
returns-clause-indexed c =
    let v = c.args.self.now in
    let named : is_anonymous c.args.text ≡ false = ap is_anonymous (sym c.bytes.ensures) ∙ sym c.is_anonymous.ensures ∙ c.if-is_anonymous.false in
    let len = c.len.ensures in
    let beyond : length v.places.items ≤ c.in_ok-place.place = omega arith in
    let f = fresh_by v.named v.places.items v.texts c.requires.indexed c.args.text c.intern.new.self c.bytes-2.result.now c.in_ok-place.place c.bytes-2.ensures c.in_ok-place.ensures.names c.in_ok-place.ensures.place named beyond in
    rw (c.in_ok-push-2.ensures.items, c.in_ok-push-3.ensures.ok, c.len-count.ensures) f.2
