use Rattle.std.proofs.Common.{sym, ◌∙◌, ap, subst, map, ◌≡◌, false}
use Rattle.std.proofs.lemmas.List.{length-map}
use Rattle.std.specs.Map.{keys_of}
use Rattle.std.proofs.lemmas.Map.Entries.{length-keys_of}
use Rattle.std.proofs.lemmas.Map.Made.{is_some-lookup}
use Rattle.indexmap.proofs.SetLemmas.{keys_insert_entry}
use Rattle.indexmap.specs.IndexMap.{keys}
use Rattle.apd_term.specs.Names.{number_of, is_name, same_text, with_name}
use Rattle.apd_term.proofs.Naming.{number_of_past, number_of-with_name}
use Rattle.apd_term.proofs.NameTable.{found_name, found_number, inserted_name, is_name-map}
use Rattle.apd_term.proofs.text_index.TextIndex.intern.Goals as goal

pub returns-in-Some-clause-names : goal.returns-in-Some-clause-names
returns-in-Some-clause-names c =
    let es = c.self.inside.texts.entries in
    subst (λ ns. ns ≡ with_name ns c.args.text.now) c.self.view_is
    (found_name (λ t. t.items) (keys c.self.inside.texts) c.args.text.now (c.in-Some.ensures.found ∙ is_some-lookup (λ k. same_text c.args.text.now k.items) es))

pub returns-in-Some-clause-place : goal.returns-in-Some-clause-place
returns-in-Some-clause-place c =
    subst (λ ns. c.in-Some.place ≡ number_of ns c.args.text.now) c.self.view_is (found_number (λ t. t.items) (keys c.self.inside.texts) c.args.text.now c.in-Some.place c.in-Some.ensures.index)

pub returns-clause-names : goal.returns-clause-names
returns-clause-names c =
    let es = c.self.inside.texts.entries in
    subst
    (λ ns. map (λ t. t.items) (keys c.insert.new.self) ≡ with_name ns c.args.text.now)
    c.self.view_is
    (ap (map (λ t. t.items)) (ap keys_of c.in_ok-insert.ensures.entries ∙ keys_insert_entry (λ a b. same_text a.items b.items) es c.in_ok-copy.copy tt)
    ∙ inserted_name (λ t. t.items) (keys c.self.inside.texts) c.in_ok-copy.copy c.args.text.now c.in_ok-copy.ensures.items)

pub returns-clause-place : goal.returns-clause-place
returns-clause-place c =
    let names = returns-clause-names c in
    let es = c.self.inside.texts.entries in
    let ks = keys c.self.inside.texts in
    let new : is_name (map (λ t. t.items) ks) c.args.text.now ≡ false =
    is_name-map (λ t. t.items) ks c.args.text.now ∙ sym (is_some-lookup (λ k. same_text c.args.text.now k.items) es) ∙ sym c.in_default.ensures.found in
    let at : c.len-place.result ≡ number_of (map (λ t. t.items) ks) c.args.text.now =
    c.len-place.ensures.len ∙ sym (length-keys_of es) ∙ sym (length-map ks (λ t. t.items)) ∙ sym (number_of_past _ c.args.text.now new) in
    subst (λ ns. c.len-place.result ≡ number_of ns c.args.text.now) c.self.view_is at ∙ sym (number_of-with_name c.args.self.now c.args.text.now) ∙ sym (ap (λ ns. number_of ns c.args.text.now) names)
