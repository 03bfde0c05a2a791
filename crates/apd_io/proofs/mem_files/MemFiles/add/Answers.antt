use Rattle.std.proofs.Common.{◌≡◌, sym, ◌∙◌, None}
use Rattle.apd_io.specs.Memory.{IsPlaceOf, content_of}
use Rattle.apd_io.proofs.ShelfLemmas.{content_of-replaced, content_of-replaced_other, content_of-added, content_of-added_other}
use Rattle.apd_io.proofs.mem_files.MemFiles.add.Goals as goal

pub returns-in-Some-clause-here : goal.returns-in-Some-clause-here
returns-in-Some-clause-here c =
    let place : IsPlaceOf c.self.inside.files.items c.args.name.now c.in-Some.i = rw (c.deref.ensures.value, c.as_bytes.ensures.value) at c.in-Some.ensures in
    content_of-replaced _ c.in-Some.i c.index_mut.result.now c.args.content _ place c.index_mut.ensures.value

pub returns-in-Some-clause-others : goal.returns-in-Some-clause-others
returns-in-Some-clause-others c other differs =
    let place : IsPlaceOf c.self.inside.files.items c.args.name.now c.in-Some.i = rw (c.deref.ensures.value, c.as_bytes.ensures.value) at c.in-Some.ensures in
    rw (← c.self.view_is) (content_of-replaced_other _ c.in-Some.i c.index_mut.result.now c.args.content _ other place c.index_mut.ensures.value differs)

pub returns-in_ok-push-in-None-clause-here : goal.returns-in_ok-push-in-None-clause-here
returns-in_ok-push-in-None-clause-here c =
    let none : content_of c.self.inside.files.items c.args.name.now ≡ None = rw (c.deref.ensures.value, c.as_bytes.ensures.value) at c.in-None.ensures in
    rw c.in_ok-push-in-None.ensures.items (content_of-added _ _ _ none (c.in_ok-name-in-None.ensures ∙ c.as_bytes-in-None.ensures.value))

pub returns-in_ok-push-in-None-clause-others : goal.returns-in_ok-push-in-None-clause-others
returns-in_ok-push-in-None-clause-others c other differs =
    rw (← c.self.view_is, c.in_ok-push-in-None.ensures.items) (content_of-added_other _ _ other (λ e. differs (sym e ∙ c.in_ok-name-in-None.ensures ∙ c.as_bytes-in-None.ensures.value)))
