-- Free variables behind others.
use Rattle.std.proofs.Common.{◌≡◌, ◌+◌, List, [], ◌∷◌, ◌++◌, replicate, ◌∙◌, ap, append_assoc}
use Rattle.std.proofs.lemmas.List.{replicate-append-replicate}
use Rattle.apd_cells.specs.declared.heap.Binding.{Binding}
use Rattle.apd_cells.specs.declared.heap.Binding.TheVariants.{Free}
use Rattle.apd_cells.specs.Heap.{HasMore}

pub more_one : (old mid new : List Binding) → HasMore old mid → new ≡ mid ++ Free ∷ [] → HasMore old new
more_one old mid new h e =
    (h.0 + 1, e ∙ ap (λ r. r ++ Free ∷ []) h.1 ∙ append_assoc old (replicate h.0 Free) (Free ∷ []) ∙ ap (λ r. old ++ r) (replicate-append-replicate h.0 1 Free))
