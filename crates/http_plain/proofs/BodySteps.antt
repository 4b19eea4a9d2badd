-- The body of each framing.
use Rattle.std.proofs.Common.{◌≡◌, ℕ, true, false, cond, List, [], length, take, drop, ap, refl, ◌∙◌, nat_lt, arith}
use Rattle.std.proofs.lemmas.Bool.{le-ltb}
use Rattle.http1_grammar.specs.Limits.{Limits}
use Rattle.http1_grammar.specs.Framing as grammar
use Rattle.http1_grammar.specs.Framing.{framing}
use Rattle.http1_grammar.specs.Head.{Head}
use Rattle.http1_grammar.specs.Body.{unfinished, malformed, whole, chunks, body_by, body}
use Rattle.http1_head.specs.declared.framing.Framing.TheVariants.{Empty, Sized, TooLarge, Chunked, Faulty}
use Rattle.http1_head.specs.Framings.{capped}

pub none_taken : (bytes : List ℕ) → cond (nat_lt (length bytes) 0) unfinished (whole (take 0 bytes) (drop 0 bytes)) ≡ whole [] bytes
none_taken bytes = rw (le-ltb (length bytes) 0 (omega arith)) refl

empty_body : (limits : Limits) (bytes : List ℕ) (most : ℕ) (f : grammar.Framing) → Empty ≡ capped most f → whole [] bytes ≡ body_by limits bytes f
empty_body limits bytes most grammar.empty e = refl
empty_body limits bytes most (grammar.sized size) e =
    elim (nat_lt most size) as (λ v. Empty ≡ cond v TooLarge (Sized size) → whole [] bytes ≡ body_by limits bytes (grammar.sized size)) [
      | true ↦ λ k. absurd cc
      | false ↦ λ k. absurd cc
    ] e
empty_body limits bytes most grammar.chunked e = absurd cc
empty_body limits bytes most grammar.faulty e = absurd cc

sized_body : (limits : Limits) (bytes : List ℕ) (most size : ℕ) (f : grammar.Framing) → Sized size ≡ capped most f
    → cond (nat_lt (length bytes) size) unfinished (whole (take size bytes) (drop size bytes)) ≡ body_by limits bytes f
sized_body limits bytes most size grammar.empty e = absurd cc
sized_body limits bytes most size (grammar.sized other) e =
    elim (nat_lt most other) as (λ v. Sized size ≡ cond v TooLarge (Sized other)
    → cond (nat_lt (length bytes) size) unfinished (whole (take size bytes) (drop size bytes)) ≡ body_by limits bytes (grammar.sized other)) [
      | true ↦ λ k. absurd cc
      | false ↦ λ k. let same : size ≡ other = cc in ap (λ n. body_by limits bytes (grammar.sized n)) same
    ] e
sized_body limits bytes most size grammar.chunked e = absurd cc
sized_body limits bytes most size grammar.faulty e = absurd cc

large_body : (limits : Limits) (bytes : List ℕ) (most : ℕ) (f : grammar.Framing) → most ≡ length bytes → TooLarge ≡ capped most f
    → unfinished ≡ body_by limits bytes f
large_body limits bytes most grammar.empty l e = absurd cc
large_body limits bytes most (grammar.sized size) l e =
    elim (nat_lt most size) as (λ v. TooLarge ≡ cond v TooLarge (Sized size) → unfinished ≡ cond v unfinished (whole (take size bytes) (drop size bytes))) [
      | true ↦ λ k. refl
      | false ↦ λ k. absurd cc
    ] e ∙ ap (λ n. cond (nat_lt n size) unfinished (whole (take size bytes) (drop size bytes))) l
large_body limits bytes most grammar.chunked l e = absurd cc
large_body limits bytes most grammar.faulty l e = absurd cc

chunked_body : (limits : Limits) (bytes : List ℕ) (most : ℕ) (f : grammar.Framing) → Chunked ≡ capped most f → chunks limits [] bytes ≡ body_by limits bytes f
chunked_body limits bytes most grammar.empty e = absurd cc
chunked_body limits bytes most (grammar.sized size) e =
    elim (nat_lt most size) as (λ v. Chunked ≡ cond v TooLarge (Sized size) → chunks limits [] bytes ≡ body_by limits bytes (grammar.sized size)) [
      | true ↦ λ k. absurd cc
      | false ↦ λ k. absurd cc
    ] e
chunked_body limits bytes most grammar.chunked e = refl
chunked_body limits bytes most grammar.faulty e = absurd cc

faulty_body : (limits : Limits) (bytes : List ℕ) (most : ℕ) (f : grammar.Framing) → Faulty ≡ capped most f → malformed 400 ≡ body_by limits bytes f
faulty_body limits bytes most grammar.empty e = absurd cc
faulty_body limits bytes most (grammar.sized size) e =
    elim (nat_lt most size) as (λ v. Faulty ≡ cond v TooLarge (Sized size) → malformed 400 ≡ body_by limits bytes (grammar.sized size)) [
      | true ↦ λ k. absurd cc
      | false ↦ λ k. absurd cc
    ] e
faulty_body limits bytes most grammar.chunked e = absurd cc
faulty_body limits bytes most grammar.faulty e = refl

module _ (limits : Limits) (head : Head) (bytes : List ℕ) (most : ℕ) where
  pub is_empty : Empty ≡ capped most (framing head) → whole [] bytes ≡ body limits head bytes
  unfolding body
  is_empty e = empty_body limits bytes most (framing head) e

  pub is_sized : (size : ℕ) → Sized size ≡ capped most (framing head)
      → cond (nat_lt (length bytes) size) unfinished (whole (take size bytes) (drop size bytes)) ≡ body limits head bytes
  unfolding body
  is_sized size e = sized_body limits bytes most size (framing head) e

  pub is_large : most ≡ length bytes → TooLarge ≡ capped most (framing head) → unfinished ≡ body limits head bytes
  unfolding body
  is_large l e = large_body limits bytes most (framing head) l e

  pub is_chunked : Chunked ≡ capped most (framing head) → chunks limits [] bytes ≡ body limits head bytes
  unfolding body
  is_chunked e = chunked_body limits bytes most (framing head) e

  pub is_faulty : Faulty ≡ capped most (framing head) → malformed 400 ≡ body limits head bytes
  unfolding body
  is_faulty e = faulty_body limits bytes most (framing head) e
