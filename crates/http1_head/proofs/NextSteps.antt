-- The next step, test by test.
use Rattle.std.proofs.Common.{◌≡◌, ◌≤◌, ◌<◌, ◌+◌, ℕ, true, false, cond, List, [], ◌∷◌, length, take, drop, arith, sym, ap, ◌∙◌, refl, nat_lt, Option, Some, None, inl, inr, min, zero, suc, arith}
use Rattle.std.specs.Prelude.{◌⊎◌, ◌==◌, bytes_eq, count_by}
use Rattle.std.specs.Option.{option_map}
use Rattle.std.proofs.lemmas.Bool.{lt-ltb, le-ltb, le-leb, lt-leb, and_parts, true≢false}
use Rattle.std.proofs.lemmas.Option.{none-some, same_Some}
use Rattle.std.proofs.lemmas.List.{take_rest, take_min, take_all, drop-drop}
use Rattle.httparse.specs.Grammar.{RequestHead}
use Rattle.http1_grammar.specs.Limits.{Limits}
use Rattle.http1_grammar.specs.Lines.{is_line_feed, empty_line, skip_empty_lines, head_len, or_else}
use Rattle.http1_grammar.specs.Head.{Head, head_of}
use Rattle.http1_grammar.specs.RequestText.{request_head}
use Rattle.http1_grammar.specs.Framing as grammar
use Rattle.http1_grammar.specs.Framing.{framing}
use Rattle.http1_grammar.specs.Next.{nothing, refuse, found, by_framing, by_grammar, by_len, judge, next_head, next}
use Rattle.http1_grammar.specs.Reading.{in_length, in_chunks, body_stage}
use Rattle.http1_grammar.proofs.ScanLemmas.{skip_done, head_len_within}
use Rattle.http1_head.specs.declared.framing.Framing.{Framing}
use Rattle.http1_head.specs.declared.framing.Framing.TheVariants.{Empty, Sized, TooLarge, Chunked, Faulty}
use Rattle.http1_head.specs.declared.next.NextHead.{NextHead}
use Rattle.http1_head.specs.declared.next.NextHead.TheVariants.{Nothing, Refused, Found}
use Rattle.http1_head.specs.Framings.{capped}
use Rattle.http1_head.specs.Passing.{HasSeen, LooksAtAll}
use Rattle.http1_head.specs.Steps.{step_of}
use Rattle.http1_head.proofs.PassingSteps.{all_seen}
use Rattle.http1_head.proofs.ScanSteps.{from}

-- ---- a head's text

pub judge_many : (limits : Limits) (text rest : List ℕ) → 98 < count_by is_line_feed text → refuse 431 ≡ judge limits text rest
unfolding judge
judge_many limits text rest h = rw (lt-ltb 98 _ h) refl

judge_few : (limits : Limits) (text rest : List ℕ) → count_by is_line_feed text ≤ 98
    → by_grammar limits rest (request_head text) ≡ judge limits text rest
unfolding judge
judge_few limits text rest h = rw (le-ltb 98 _ h) refl

no_grammar : (limits : Limits) (rest : List ℕ) (o : Option RequestHead) → None ≡ option_map head_of o
    → refuse 400 ≡ by_grammar limits rest o
no_grammar limits rest None h = refl
no_grammar limits rest (Some head) h = absurd (none-some _ h)

a_grammar : (limits : Limits) (rest : List ℕ) (o : Option RequestHead) (head : Head) → Some head ≡ option_map head_of o
    → by_framing limits head rest (framing head) ≡ by_grammar limits rest o
a_grammar limits rest None head h = absurd (none-some _ (sym h))
a_grammar limits rest (Some tree) head h =
    ap (λ (g : Head). by_framing limits g rest (framing g)) (same_Some _ _ h)

pub judge_none : (limits : Limits) (text rest : List ℕ) → count_by is_line_feed text ≤ 98
    → None ≡ option_map head_of (request_head text) → refuse 400 ≡ judge limits text rest
judge_none limits text rest few h = no_grammar limits rest (request_head text) h ∙ judge_few limits text rest few

judge_some : (limits : Limits) (text rest : List ℕ) (head : Head) → count_by is_line_feed text ≤ 98
    → Some head ≡ option_map head_of (request_head text)
    → by_framing limits head rest (framing head) ≡ judge limits text rest
judge_some limits text rest head few h = a_grammar limits rest (request_head text) head h ∙ judge_few limits text rest few

-- a framing that is read
abbrev pub IsRead : Framing → Type 0
IsRead f = (f ≡ Empty) ⊎ (((x : ℕ) × (f ≡ Sized x)) ⊎ (f ≡ Chunked))

not_read : (f : Framing) → IsRead f → (f ≡ TooLarge) ⊎ (f ≡ Faulty) → ⊥
not_read f (inl a) (inl b) = cc
not_read f (inl a) (inr b) = cc
not_read f (inr (inl a)) (inl b) = let e = a.1 in cc
not_read f (inr (inl a)) (inr b) = let e = a.1 in cc
not_read f (inr (inr a)) (inl b) = cc
not_read f (inr (inr a)) (inr b) = cc

framed : (limits : Limits) (rest : List ℕ) (head : Head) (g : grammar.Framing) (f : Framing) → f ≡ capped limits.body g → IsRead f
    → found head rest ≡ by_framing limits head rest g
framed limits rest head grammar.empty f e r = refl
framed limits rest head (grammar.sized size) f e r =
    elim (nat_lt limits.body size) as (λ b. f ≡ cond b TooLarge (Sized size) → found head rest ≡ cond b (refuse 413) (found head rest)) [
      | true ↦ λ k. absurd (not_read f r (inl k))
      | false ↦ λ k. refl
    ] e
framed limits rest head grammar.chunked f e r = refl
framed limits rest head grammar.faulty f e r = absurd (not_read f r (inr e))

above : (limits : Limits) (rest : List ℕ) (head : Head) (g : grammar.Framing) → TooLarge ≡ capped limits.body g
    → refuse 413 ≡ by_framing limits head rest g
above limits rest head grammar.empty e = absurd cc
above limits rest head (grammar.sized size) e =
    elim (nat_lt limits.body size) as (λ b. TooLarge ≡ cond b TooLarge (Sized size) → refuse 413 ≡ cond b (refuse 413) (found head rest)) [
      | true ↦ λ k. refl
      | false ↦ λ k. absurd cc
    ] e
above limits rest head grammar.chunked e = absurd cc
above limits rest head grammar.faulty e = absurd cc

unframed : (limits : Limits) (rest : List ℕ) (head : Head) (g : grammar.Framing) → Faulty ≡ capped limits.body g
    → refuse 400 ≡ by_framing limits head rest g
unframed limits rest head grammar.empty e = absurd cc
unframed limits rest head (grammar.sized size) e =
    elim (nat_lt limits.body size) as (λ b. Faulty ≡ cond b TooLarge (Sized size) → refuse 400 ≡ cond b (refuse 413) (found head rest)) [
      | true ↦ λ k. absurd cc
      | false ↦ λ k. absurd cc
    ] e
unframed limits rest head grammar.chunked e = absurd cc
unframed limits rest head grammar.faulty e = refl

pub judge_found : (limits : Limits) (text rest : List ℕ) (head : Head) (f : Framing) → count_by is_line_feed text ≤ 98
    → Some head ≡ option_map head_of (request_head text) → f ≡ capped limits.body (framing head) → IsRead f
    → found head rest ≡ judge limits text rest
judge_found limits text rest head f few h e r =
    framed limits rest head (framing head) f e r ∙ judge_some limits text rest head few h

pub judge_above : (limits : Limits) (text rest : List ℕ) (head : Head) → count_by is_line_feed text ≤ 98
    → Some head ≡ option_map head_of (request_head text) → TooLarge ≡ capped limits.body (framing head)
    → refuse 413 ≡ judge limits text rest
judge_above limits text rest head few h e =
    above limits rest head (framing head) e ∙ judge_some limits text rest head few h

pub judge_faulty : (limits : Limits) (text rest : List ℕ) (head : Head) → count_by is_line_feed text ≤ 98
    → Some head ≡ option_map head_of (request_head text) → Faulty ≡ capped limits.body (framing head)
    → refuse 400 ≡ judge limits text rest
judge_faulty limits text rest head few h e =
    unframed limits rest head (framing head) e ∙ judge_some limits text rest head few h

-- ---- where the body of a head that is read stands

pub framed_sized : (most size : ℕ) (g : grammar.Framing) → Sized size ≡ capped most g → in_length size ≡ body_stage g
framed_sized most size grammar.empty e = absurd cc
framed_sized most size (grammar.sized other) e =
    elim (nat_lt most other) as (λ b. Sized size ≡ cond b TooLarge (Sized other) → in_length size ≡ in_length other) [
      | true ↦ λ k. absurd cc
      | false ↦ λ k. let same : size ≡ other = cc in ap in_length same
    ] e
framed_sized most size grammar.chunked e = absurd cc
framed_sized most size grammar.faulty e = absurd cc

pub framed_empty : (most : ℕ) (g : grammar.Framing) → Empty ≡ capped most g → in_length 0 ≡ body_stage g
framed_empty most grammar.empty e = refl
framed_empty most (grammar.sized other) e =
    elim (nat_lt most other) as (λ b. Empty ≡ cond b TooLarge (Sized other) → in_length 0 ≡ in_length other) [ true ↦ λ k. absurd cc | false ↦ λ k. absurd cc ] e
framed_empty most grammar.chunked e = absurd cc
framed_empty most grammar.faulty e = absurd cc

pub framed_chunked : (most : ℕ) (g : grammar.Framing) → Chunked ≡ capped most g → in_chunks [] ≡ body_stage g
framed_chunked most grammar.empty e = absurd cc
framed_chunked most (grammar.sized other) e =
    elim (nat_lt most other) as (λ b. Chunked ≡ cond b TooLarge (Sized other) → in_chunks [] ≡ in_length other) [ true ↦ λ k. absurd cc | false ↦ λ k. absurd cc ] e
framed_chunked most grammar.chunked e = refl
framed_chunked most grammar.faulty e = absurd cc

-- ---- a head's text decides

decided_framing : (limits : Limits) (head : Head) (rest : List ℕ) (f : grammar.Framing) → by_framing limits head rest f ≡ nothing → ⊥
decided_framing limits head rest grammar.empty e = cc
decided_framing limits head rest (grammar.sized size) e =
    elim (nat_lt limits.body size) as (λ v. cond v (refuse 413) (found head rest) ≡ nothing → ⊥) [ true ↦ λ k. cc | false ↦ λ k. cc ] e
decided_framing limits head rest grammar.chunked e = cc
decided_framing limits head rest grammar.faulty e = cc

decided_grammar : (limits : Limits) (rest : List ℕ) (o : Option RequestHead) → by_grammar limits rest o ≡ nothing → ⊥
decided_grammar limits rest None e = cc
decided_grammar limits rest (Some head) e = decided_framing limits (head_of head) rest (framing (head_of head)) e

decided_judge : (limits : Limits) (text rest : List ℕ) → judge limits text rest ≡ nothing → ⊥
unfolding judge
decided_judge limits text rest e =
    elim (nat_lt 98 (count_by is_line_feed text)) as (λ v. cond v (refuse 431) (by_grammar limits rest (request_head text)) ≡ nothing → ⊥) [
      | true ↦ λ k. cc
      | false ↦ λ k. decided_grammar limits rest (request_head text) k
    ] e

pub judged_looks : (limits : Limits) (bytes text rest : List ℕ) (answer : NextHead) → step_of bytes answer ≡ judge limits text rest
    → LooksAtAll limits bytes answer
judged_looks limits bytes text rest Nothing h = absurd (decided_judge limits text rest (sym h))
judged_looks limits bytes text rest (Refused status) h = tt
judged_looks limits bytes text rest (Found head body used) h = tt

-- ---- the head at the front

pub alone : (limits : Limits) (text : List ℕ) → bytes_eq text (13 ∷ []) ≡ true → nothing ≡ next_head limits text
unfolding next_head
alone limits text h = rw h refl

plain : (limits : Limits) (text : List ℕ) → bytes_eq text (13 ∷ []) ≡ false
    → by_len limits text (head_len (take limits.head text)) ≡ next_head limits text
unfolding next_head
plain limits text h = rw h refl

-- the front of the text in which a head may end
window : (limits : Limits) (text : List ℕ) (m : ℕ) (o : Option ℕ) → m ≡ min limits.head (length text)
    → o ≡ head_len (take m text) → o ≡ head_len (take limits.head text)
window limits text m o e h = h ∙ ap head_len (ap (λ k. take k text) e ∙ take_min limits.head text)

pub front_judged : (limits : Limits) (text : List ℕ) (m n : ℕ) → bytes_eq text (13 ∷ []) ≡ false
    → m ≡ min limits.head (length text) → Some n ≡ head_len (take m text)
    → judge limits (take n text) (drop n text) ≡ next_head limits text
front_judged limits text m n e w h = ap (by_len limits text) (window limits text m (Some n) w h) ∙ plain limits text e

pub front_long : (limits : Limits) (text : List ℕ) (m : ℕ) → bytes_eq text (13 ∷ []) ≡ false
    → m ≡ min limits.head (length text) → None ≡ head_len (take m text) → limits.head ≤ length text → refuse 431 ≡ next_head limits text
front_long limits text m e w h l =
    sym (rw (le-leb limits.head (length text) l) refl) ∙ ap (by_len limits text) (window limits text m None w h) ∙ plain limits text e

pub front_short : (limits : Limits) (text : List ℕ) (m : ℕ) → bytes_eq text (13 ∷ []) ≡ false
    → m ≡ min limits.head (length text) → None ≡ head_len (take m text) → length text < limits.head → nothing ≡ next_head limits text
front_short limits text m e w h l =
    sym (rw (lt-leb limits.head (length text) l) refl) ∙ ap (by_len limits text) (window limits text m None w h) ∙ plain limits text e

empty_line_take : (n : ℕ) (bytes : List ℕ) → 2 ≤ n → empty_line bytes ≡ None → empty_line (take n bytes) ≡ None
empty_line_take zero bytes l h = absurd (omega arith)
empty_line_take (suc zero) bytes l h = absurd (omega arith)
empty_line_take (suc (suc n)) [] l h = refl
empty_line_take (suc (suc n)) (b ∷ []) l h = h
empty_line_take (suc (suc n)) (b ∷ c ∷ bytes) l h = h

pub front_begins : (text : List ℕ) (m n : ℕ) → empty_line text ≡ None → Some n ≡ head_len (take m text) → empty_line (take n text) ≡ None
front_begins text m n b h = empty_line_take n text (head_len_within (take m text) n (sym h)).0 b

pub front_seen : (limits : Limits) (text : List ℕ) (m : ℕ) → m ≡ min limits.head (length text) → None ≡ head_len (take m text)
    → length text < limits.head → HasSeen limits text (length text)
front_seen limits text m w h l =
    all_seen limits text (omega arith) (ap head_len (sym (take_all m text (omega arith))) ∙ sym h)

one_open : (b : ℕ) → head_len (b ∷ []) ≡ None
unfolding head_len
one_open b = elim (b == 10) as (λ v. option_map suc (cond v (or_else (empty_line []) (head_len [])) (head_len [])) ≡ None) [ true ↦ refl | false ↦ refl ]

-- a lone CR was looked at
pub alone_seen : (limits : Limits) (text : List ℕ) → 0 < limits.head → bytes_eq text (13 ∷ []) ≡ true → HasSeen limits text (length text)
alone_seen limits [] l h = absurd (true≢false (sym h))
alone_seen limits (b ∷ []) l h = all_seen limits (b ∷ []) (omega arith) (one_open b)
alone_seen limits (b ∷ c ∷ text) l h = absurd (true≢false (sym (and_parts _ _ h).1))

-- ---- the bytes of a connection

-- the bytes from s on are those behind the empty lines
abbrev pub Skips : List ℕ → ℕ → Type 0
Skips bytes s = drop s bytes ≡ skip_empty_lines bytes

rest_is : (bytes : List ℕ) (s : ℕ) → Skips bytes s → from s bytes ≡ skip_empty_lines bytes
rest_is bytes s h = take_rest bytes s ∙ h

pub next_at : (limits : Limits) (bytes : List ℕ) (s : ℕ) → Skips bytes s → next_head limits (from s bytes) ≡ next limits bytes
unfolding next
next_at limits bytes s h = ap (next_head limits) (rest_is bytes s h)

pub begins : (bytes : List ℕ) (s : ℕ) → Skips bytes s → empty_line (from s bytes) ≡ None
begins bytes s h = ap empty_line (rest_is bytes s h) ∙ skip_done bytes

pub found_at : (bytes : List ℕ) (s used : ℕ) → drop used (from s bytes) ≡ drop (s + used) bytes
found_at bytes s used = ap (drop used) (take_rest bytes s) ∙ drop-drop used s bytes
