-- A field whose name is not there goes last.
use Rattle.std.proofs.Common.{◌≡◌, ℕ, true, false, cond, List, [], ◌∷◌, ◌++◌, map, None, ap, ◌∙◌, refl, sym, codes}
use Rattle.std.specs.Prelude.{slice_get}
use Rattle.std.specs.List.{filter}
use Rattle.std.proofs.lemmas.Option.{none-some}
use Rattle.http1_grammar.specs.Headers.{Header, get, insert, is_named, remove}
use Rattle.cors_rules.specs.Fields.{add_vary, vary_text, vary_value}

insert_new : (headers : List Header) (name value : List ℕ) → get headers name ≡ None → insert headers name value ≡ headers ++ (name, value) ∷ []
insert_new [] name value absent = refl
insert_new (header ∷ headers) name value absent =
    elim (is_named name header) as (λ b. slice_get (map (λ (h : Header). h.1) (cond b (header ∷ filter (is_named name) headers) (filter (is_named name) headers))) 0 ≡ None
    → cond b ((name, value) ∷ remove headers name) (header ∷ insert headers name value) ≡ header ∷ (headers ++ (name, value) ∷ [])) [
      | true ↦ λ there. absurd (none-some header.1 (sym there))
      | false ↦ λ rest. ap (λ (hs : List Header). header ∷ hs) (insert_new headers name value rest)
    ] absent

pub vary_last : (headers : List Header) → get headers (codes "vary") ≡ None → headers ++ (codes "vary", vary_text) ∷ [] ≡ add_vary headers
unfolding add_vary
vary_last headers absent =
    sym (ap (λ before. insert headers (codes "vary") (vary_value before)) absent ∙ insert_new headers (codes "vary") vary_text absent)
