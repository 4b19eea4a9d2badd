-- Steps of the program on lists.
use Rattle.std.proofs.Common.{◌≡◌, ◌≤◌, ◌<◌, ◌+◌, ℕ, List, [], ◌∷◌, length, take, drop, get_or, map, arith, add-one, sym, ap, ◌∙◌, refl, Option, Some, None, Bor, codes}
use Rattle.std.specs.Option.{option_map}
use Rattle.std.specs.List.{filter}
use Rattle.std.proofs.lemmas.Option.{none-some}
use Rattle.httparse.specs.Grammar.{Field, LineEnd}
use Rattle.http1_grammar.specs.Headers.{Header, is_named, get_all}
use Rattle.http1_grammar.specs.Lines.{line_text}
use Rattle.http1_grammar.specs.Head.{Head, header_of}
use Rattle.http1_grammar.specs.Framing.{framing, framing_by}
use Rattle.http1_grammar.specs.RequestText.{field_of, section_of, with_field}
use Rattle.http1_head.specs.Framings.{capped}
use Rattle.http1_head.proofs.FramingSteps.{framing_at}
use Rattle.http_plain.specs.HandedOn.{headers_of}

pub text_more : (line : List ℕ) (n : ℕ) → 2 ≤ length line → take n (drop 1 line) ≡ line_text (drop 1 line)
    → take (n + 1) line ≡ line_text line
unfolding line_text
text_more [] n l h = absurd (omega arith)
text_more (b ∷ []) n l h = absurd (omega arith)
text_more (b ∷ c ∷ line) n l h = rw add-one (ap (λ bs. b ∷ bs) h)

-- the lines that the slices hold
abbrev pub seen : List (Bor (List ℕ)) → List (List ℕ)
seen lines = map (λ line. line.now) lines

pub section_short : (lines : List (Bor (List ℕ))) → length lines < 2 → None ≡ option_map headers_of (section_of (seen lines))
unfolding section_of
section_short [] l = refl
section_short (line ∷ []) l = refl
section_short (line ∷ second ∷ lines) l = absurd (omega arith)

joined : (f : Option Field) (s : Option (List Field × LineEnd)) (field : Header) (headers : List Header)
    → Some field ≡ option_map header_of f → Some headers ≡ option_map headers_of s
    → Some (field ∷ headers) ≡ option_map headers_of (with_field f s)
joined None s field headers a b = absurd (none-some _ (sym a))
joined (Some f) None field headers a b = absurd (none-some _ (sym b))
joined (Some f) (Some s) field headers a b = cc

pub section_more : (lines : List (Bor (List ℕ))) (d : Bor (List ℕ)) (field : Header) (headers : List Header) → 3 ≤ length lines
    → Some field ≡ option_map header_of (field_of (get_or lines 0 d).now)
    → Some headers ≡ option_map headers_of (section_of (seen (drop 1 lines)))
    → Some (field ∷ headers) ≡ option_map headers_of (section_of (seen lines))
unfolding section_of
section_more [] d field headers l a b = absurd (omega arith)
section_more (x ∷ []) d field headers l a b = absurd (omega arith)
section_more (x ∷ y ∷ []) d field headers l a b = absurd (omega arith)
section_more (x ∷ y ∷ z ∷ lines) d field headers l a b =
    joined (field_of x.now) (section_of (seen (y ∷ z ∷ lines))) field headers a b

-- ---- framing

-- the headers, and their values
abbrev pub kept : List (Bor Header) → List Header
kept found = map (λ header. header.now) found

abbrev pub values : List (Bor Header) → List (List ℕ)
values found = map (λ header. header.now.1) found

values_of_kept : (found : List (Bor Header)) → values found ≡ map (λ (header : Header). header.1) (kept found)
values_of_kept [] = refl
values_of_kept (header ∷ found) = ap (λ vs. header.now.1 ∷ vs) (values_of_kept found)

pub values_are : (headers : List Header) (name : List ℕ) (found : List (Bor Header)) → kept found ≡ filter (is_named name) headers
    → get_all headers name ≡ values found
values_are headers name found h = sym (values_of_kept found ∙ ap (map (λ (header : Header). header.1)) h)

pub framed : (most minor : ℕ) (head : Head) (headers headers2 : List Header) (codings lengths kept_codings kept_lengths : List (Bor Header))
    → minor ≡ head.minor → headers ≡ head.headers → headers2 ≡ head.headers
    → codings ≡ kept_codings → lengths ≡ kept_lengths
    → kept kept_codings ≡ filter (is_named (codes "transfer-encoding")) headers
    → kept kept_lengths ≡ filter (is_named (codes "content-length")) headers2
    → capped most (framing_by minor (values codings) (values lengths)) ≡ capped most (framing head)
framed most minor head headers headers2 codings lengths kept_codings kept_lengths m h h2 e f c l =
    rw (m, e, f) (framing_at most head (values kept_codings) (values kept_lengths)
    (ap (λ hs. get_all hs (codes "transfer-encoding")) (sym h) ∙ values_are headers (codes "transfer-encoding") kept_codings c)
    (ap (λ hs. get_all hs (codes "content-length")) (sym h2) ∙ values_are headers2 (codes "content-length") kept_lengths l))
