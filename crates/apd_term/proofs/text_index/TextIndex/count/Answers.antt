use Rattle.std.proofs.Common.{sym, subst, length, ap, ◌∙◌}
use Rattle.std.proofs.lemmas.List.{length-map}
use Rattle.std.proofs.lemmas.Map.Entries.{length-keys_of}
use Rattle.indexmap.specs.IndexMap.{keys}
use Rattle.apd_term.specs.Names.{HasDistinctTexts}
use Rattle.apd_term.proofs.NameTable.{distinct_texts}
use Rattle.apd_term.proofs.text_index.TextIndex.count.Goals as goal

pub returns-clause-count : goal.returns-clause-count
returns-clause-count c =
    c.len.ensures.len ∙ sym (length-keys_of c.self.inside.texts.entries)
    ∙ sym (length-map (keys c.self.inside.texts) (λ t. t.items)) ∙ ap length c.self.view_is

pub returns-clause-distinct : goal.returns-clause-distinct
returns-clause-distinct c = subst HasDistinctTexts c.self.view_is (distinct_texts (λ t. t.items) (keys c.self.inside.texts) c.len.ensures.unique)
