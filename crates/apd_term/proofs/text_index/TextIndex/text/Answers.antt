use Rattle.std.proofs.Common.{◌≡◌, ℕ, List, [], Some, sym, ap, map, slice_get, get_or, ◌∙◌}
use Rattle.std.specs.Option.{option_map}
use Rattle.std.proofs.lemmas.Option.{get_or_from_slice_get, slice_get-map}
use Rattle.indexmap.specs.IndexMap.{keys}
use Rattle.apd_term.proofs.text_index.TextIndex.text.Goals as goal

pub returns-in-Some : goal.returns-in-Some
returns-in-Some c =
    let es = c.self.inside.texts.entries in
    let ks = keys c.self.inside.texts in
    let at : slice_get (map (λ t. t.items) ks) c.args.place ≡ Some c.in-Some.text.now.items =
    slice_get-map (λ t. t.items) ks c.args.place
    ∙ ap (option_map (λ t. t.items)) (slice_get-map (λ e. e.0) es c.args.place ∙ ap (option_map (λ e. e.0)) (sym c.in-Some.ensures.entry)) in
    c.as_slice.ensures.value
    ∙ sym (get_or_from_slice_get (map (λ t. t.items) ks) c.args.place c.in-Some.text.now.items [] at)
    ∙ ap (λ (ts : List (List ℕ)). get_or ts c.args.place []) c.self.view_is
