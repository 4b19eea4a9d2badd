-- The test of URIs decides the relation that the crate http_uri promises.
use Rattle.std.proofs.Common.{◌≡◌, ◌≢◌, ◌⊎◌, ◌<◌, ◌≤◌, ◌+◌, ◌-◌, ◌==◌, ◌&&◌, ℕ, zero, suc, Bool, true, cond, IsTrue, IfSome, List, [], ◌∷◌, ◌++◌, length, take, drop, get_or, Option, Some, None, refl, sym, subst, arith, inl, inr, append-nil, append_assoc, leb-true, le-leb, nat_le, nat_lt, codes, length-take, length-take-le, length-drop}
use Rattle.std.specs.Bool.{Decides}
use Rattle.std.specs.List.{list_all}
use Rattle.std.specs.Option.{option_map_or}
use Rattle.std.proofs.lemmas.Bool.{and_parts, and_from}
use Rattle.std.proofs.lemmas.Bool.Decides.{Decides-and, Decides-by_and, Decides-eqb, Decides-like, Decides-ltb, Decides-not, Decides-or, nat_tests}
use Rattle.std.proofs.lemmas.List.Sums.{prefix_len-le-length}
use Rattle.std.proofs.lemmas.Slice.Eq.{bytes_eq-Decides}
use Rattle.std.proofs.lemmas.Str.{IsUtf8-from_is_utf8, is_utf8-from_IsUtf8}
use Rattle.http_uri.specs.ByteClasses.{count_of, is_authority_byte, is_delimiter, is_path_byte, is_query_byte, is_scheme_byte, split_once_back, split_once_front}
use Rattle.http_uri.specs.Grammar.{AllPass, IsAbsoluteForm, IsAuthority, IsForm, IsPathAndQuery, IsPathInput, IsTail, MayFollow, StartsOrigin, authority_len, last_piece, normal_scheme, scheme_len, without_fragment}
use Rattle.http_uri.proofs.RunLemmas.{AllPass-take, run_passes}
use Rattle.http_uri.proofs.UriLemmas.{absolute_from_cuts, cut_authority, cut_len, cut_rest, cut_scheme, cut_tail}
use Rattle.cors_rules.specs.Uris.{IsUri, all_follow, is_absolute_form, is_authority, is_authority_form, is_hier_part, is_origin_form, is_path_and_query, is_path_input, is_tail, is_uri, mark_fits, may_follow}

at_most_decides : (a b : ℕ) → Decides (nat_le a b) (a ≤ b)
at_most_decides a b = (leb-true a b, le-leb a b)

all_decides : (p : ℕ → Bool) (text : List ℕ) → Decides (list_all p text) (AllPass p text)
all_decides p text = Decides-by_and p (λ b. IsTrue (p b)) (list_all p) (λ x. (λ h. h, λ h. h)) refl (λ _ _. refl) text

some_decides : (p : ℕ → Bool) (text : Option (List ℕ)) → Decides (option_map_or (list_all p) text true) (IfSome text (AllPass p))
some_decides p None = (λ _. tt, λ _. refl)
some_decides p (Some text) = all_decides p text

empty_decides : (text : List ℕ) → Decides (length text == 0) (text ≡ [])
empty_decides [] = (λ _. refl, λ _. refl)
empty_decides (b ∷ rest) = (λ h. grind (arith, nat_tests), λ h. cc)

-- ---- the authority

abbrev Marks : ℕ → ℕ → ℕ → ℕ → ℕ → Type 0
Marks b colons percents opened closed =
    (b ≡ 58 → colons < 8) × (b ≡ 91 → (opened ≡ 0) × (percents ≡ 0)) × (b ≡ 93 → (0 < opened) × (closed ≡ 0))

abbrev marks : ℕ → ℕ → ℕ → ℕ → ℕ → Bool
marks b colons percents opened closed =
    cond (b == 58) (nat_lt colons 8) (cond (b == 91) ((opened == 0) && (percents == 0)) (cond (b == 93) (nat_lt 0 opened && (closed == 0)) true))

marks_fit : (b colons percents opened closed : ℕ) → marks b colons percents opened closed ≡ true → Marks b colons percents opened closed
marks_fit b colons percents opened closed h =
    (λ is. grind (arith, nat_tests), λ is. (grind (arith, nat_tests), grind (arith, nat_tests)), λ is. (grind (arith, nat_tests), grind (arith, nat_tests)))

fit_marks : (b colons percents opened closed : ℕ) → Marks b colons percents opened closed → marks b colons percents opened closed ≡ true
fit_marks b colons percents opened closed h =
    let first = h.0 in let second = h.1 in let third = h.2 in grind (arith, nat_tests)

follow_decides : (front : List ℕ) (b : ℕ) → Decides (may_follow front b) (MayFollow front b)
follow_decides front b =
    let c = count_of 58 (last_piece front) in
    let p = count_of 37 (last_piece front) in
    let o = count_of 91 front in
    let k = count_of 93 front in (
      λ h.
          let both = and_parts (is_authority_byte b) (mark_fits front b) h in
          let fit : Marks b c p o k = marks_fit b c p o k both.1 in
          record { byte = both.0; colons = fit.0; opening = fit.1; closing = fit.2 },
      λ h. and_from (is_authority_byte b) (mark_fits front b) h.byte (fit_marks b c p o k (h.colons, h.opening, h.closing)),
    )

abbrev FollowsFrom : List ℕ → List ℕ → Type 0
FollowsFrom front text = (i : ℕ) → i < length text → MayFollow (front ++ take i text) (get_or text i 0)

follows_cons : (front rest : List ℕ) (b : ℕ) → MayFollow front b → FollowsFrom (front ++ b ∷ []) rest → FollowsFrom front (b ∷ rest)
follows_cons front rest b first later zero h = subst (λ (f : List ℕ). MayFollow f b) (sym (append-nil front)) first
follows_cons front rest b first later (suc j) h =
    subst (λ (f : List ℕ). MayFollow f (get_or rest j 0)) (append_assoc front (b ∷ []) (take j rest)) (later j (omega arith))

follows_first : (front rest : List ℕ) (b : ℕ) → FollowsFrom front (b ∷ rest) → MayFollow front b
follows_first front rest b all = subst (λ (f : List ℕ). MayFollow f b) (append-nil front) (all 0 (omega arith))

follows_rest : (front rest : List ℕ) (b : ℕ) → FollowsFrom front (b ∷ rest) → FollowsFrom (front ++ b ∷ []) rest
follows_rest front rest b all j h =
    subst (λ (f : List ℕ). MayFollow f (get_or rest j 0)) (sym (append_assoc front (b ∷ []) (take j rest))) (all (suc j) (omega arith))

all_follow_decides : (front text : List ℕ) → Decides (all_follow front text) (FollowsFrom front text)
all_follow_decides front [] = (λ _ i h. absurd (omega arith), λ _. refl)
all_follow_decides front (b ∷ rest) =
    Decides-like _ (λ both. follows_cons front rest b both.0 both.1) (λ all. (follows_first front rest b all, follows_rest front rest b all))
    (Decides-and (may_follow front b) (all_follow (front ++ b ∷ []) rest) (follow_decides front b) (all_follow_decides (front ++ b ∷ []) rest))

pub authority_decides : (text : List ℕ) → Decides (is_authority text) (IsAuthority text)
unfolding is_authority
authority_decides text =
    Decides-like _
    (λ h. record { nonempty = h.0; bytes = h.1.0; closed = h.1.1.0; one_colon = h.1.1.1.0; no_percent = h.1.1.1.1.0; has_host = h.1.1.1.1.1 })
    (λ h. (h.nonempty, (h.bytes, (h.closed, (h.one_colon, (h.no_percent, h.has_host))))))
    (Decides-and _ _ (Decides-ltb 0 (length text)) (Decides-and _ _ (all_follow_decides [] text)
    (Decides-and _ _ (Decides-eqb (count_of 91 text) (count_of 93 text)) (Decides-and _ _ (at_most_decides (count_of 58 (last_piece text)) 1)
    (Decides-and _ _ (Decides-eqb (count_of 37 (last_piece text)) 0) (Decides-not _ (Decides-eqb (get_or text (length text - 1) 0) 64)))))))

-- ---- the path and the query

pub path_decides : (text : List ℕ) → Decides (is_path_and_query text) (IsPathAndQuery text)
unfolding is_path_and_query
path_decides text =
    Decides-like _
    (λ h. record { start = h.0; path = h.1.0; query = h.1.1.0; utf8 = h.1.1.1.0; short = h.1.1.1.1 })
    (λ h. (h.start, (h.path, (h.query, (h.utf8, h.short)))))
    (Decides-and _ _
    (Decides-or _ _ (empty_decides text) (Decides-or _ _ (bytes_eq-Decides text (codes "*")) (Decides-or _ _ (Decides-eqb (get_or text 0 0) 47) (Decides-eqb (get_or text 0 0) 63))))
    (Decides-and _ _ (all_decides is_path_byte (split_once_front 63 text)) (Decides-and _ _ (some_decides is_query_byte (split_once_back 63 text))
    (Decides-and _ _ (IsUtf8-from_is_utf8 text, is_utf8-from_IsUtf8 text) (at_most_decides (length text) 65534)))))

pub input_decides : (text : List ℕ) → Decides (is_path_input text) (IsPathInput text)
unfolding is_path_input
input_decides text =
    Decides-like _ (λ h. record { start = h.0; short = h.1.0; kept = h.1.1 }) (λ h. (h.start, (h.short, h.kept)))
    (Decides-and _ _ (Decides-or _ _ (bytes_eq-Decides text (codes "*")) (λ h. h, λ h. h))
    (Decides-and _ _ (at_most_decides (length text) 65534) (path_decides (without_fragment text))))

-- ---- the forms

origin_decides : (text : List ℕ) → Decides (is_origin_form text) (StartsOrigin text × IsPathInput text)
origin_decides text = Decides-and _ _ (Decides-or _ _ (bytes_eq-Decides text (codes "*")) (Decides-eqb (get_or text 0 0) 47)) (input_decides text)

authority_form_decides : (text : List ℕ) → Decides (is_authority_form text) (IsAuthority text × (text ≢ codes "*"))
authority_form_decides text = Decides-and _ _ (authority_decides text) (Decides-not _ (bytes_eq-Decides text (codes "*")))

abbrev HasTail : List ℕ → Type 0
HasTail text = (kept : List ℕ) × IsTail text kept

tail_to : (text : List ℕ) → (text ≡ []) ⊎ (IsTrue (is_delimiter (get_or text 0 0)) × IsPathInput text) → HasTail text
tail_to text (inl empty) = (codes "/", inl (empty, refl))
tail_to text (inr path) = (without_fragment text, inr (path.0, path.1, refl))

tail_from : (text kept : List ℕ) → IsTail text kept → (text ≡ []) ⊎ (IsTrue (is_delimiter (get_or text 0 0)) × IsPathInput text)
tail_from text kept (inl empty) = inl empty.0
tail_from text kept (inr path) = inr (path.0, path.1)

tail_decides : (text : List ℕ) → Decides (is_tail text) (HasTail text)
tail_decides text =
    Decides-like _ (tail_to text) (λ h. tail_from text h.0 h.1)
    (Decides-or _ _ (empty_decides text) (Decides-and _ _ (λ h. h, λ h. h) (input_decides text)))

hier_part_decides : (text : List ℕ) → Decides (is_hier_part text) (IsAuthority (take (authority_len text) text) × HasTail (drop (authority_len text) text))
hier_part_decides text = Decides-and _ _ (authority_decides (take (authority_len text) text)) (tail_decides (drop (authority_len text) text))

abbrev Absolute : List ℕ → Type 0
Absolute text =
    (scheme_len text ≤ 64) × ((take 3 (drop (scheme_len text) text) ≡ codes "://")
    × (IsAuthority (take (authority_len (drop (scheme_len text + 3) text)) (drop (scheme_len text + 3) text))
    × HasTail (drop (authority_len (drop (scheme_len text + 3) text)) (drop (scheme_len text + 3) text))))

absolute_decides : (text : List ℕ) → Decides (is_absolute_form text) (Absolute text)
absolute_decides text =
    Decides-and _ _ (at_most_decides (scheme_len text) 64)
    (Decides-and _ _ (bytes_eq-Decides (take 3 (drop (scheme_len text) text)) (codes "://")) (hier_part_decides (drop (scheme_len text + 3) text)))

-- an absolute URI from where it is cut
absolute_to : (text : List ℕ) → Absolute text → (scheme authority kept : List ℕ) × IsAbsoluteForm text scheme authority kept
absolute_to text h =
    let n = scheme_len text in
    let rest = drop (n + 3) text in
    let authority = take (authority_len rest) rest in
    let long : 3 < length text = omega (arith, h.1.1.0.nonempty, length-take (authority_len rest) rest, length-drop (n + 3) text) in
    let within = prefix_len-le-length is_scheme_byte text in
    let short : length (take n text) ≤ 64 = omega (arith, length-take-le n text within, h.0) in (
      normal_scheme (take n text),
      authority,
      h.1.1.1.0,
      absolute_from_cuts text (normal_scheme (take n text)) authority h.1.1.1.0 n (authority_len rest) (long, h.1.0) refl
          (AllPass-take is_scheme_byte text n (run_passes is_scheme_byte text), short) refl refl h.1.1.0 h.1.1.1.1,
    )

absolute_from : (text scheme authority kept : List ℕ) → IsAbsoluteForm text scheme authority kept → Absolute text
absolute_from text scheme authority kept h =
    let rest = cut_rest text scheme authority kept h in
    let mark = cut_authority text scheme authority kept h in
    let tail = cut_tail text scheme authority kept h in (
      omega (arith, cut_len text scheme authority kept h, h.is_scheme.1),
      (
        (cut_scheme text scheme authority kept h).1,
        (rw (rest, mark) h.is_authority, (kept, rw (rest, tail) h.is_tail)),
      ),
    )

-- ---- all forms

abbrev SomeForm : List ℕ → Type 0
SomeForm text = (length text ≤ 65534) × ((StartsOrigin text × IsPathInput text) ⊎ ((IsAuthority text × (text ≢ codes "*")) ⊎ Absolute text))

form_to : (text : List ℕ) → length text ≤ 65534 → (StartsOrigin text × IsPathInput text) ⊎ ((IsAuthority text × (text ≢ codes "*")) ⊎ Absolute text) → IsUri text
form_to text short (inl origin) = record { scheme = None; authority = None; kept = without_fragment text; spelled = (short, (origin, refl)) }
form_to text short (inr (inl alone)) = record { scheme = None; authority = Some text; kept = []; spelled = (short, (alone.0, alone.1, refl, refl)) }
form_to text short (inr (inr absolute)) =
    let h = absolute_to text absolute in
    record { scheme = Some h.0; authority = Some h.1; kept = h.2; spelled = (short, h.3) }

form_from : (text : List ℕ) (scheme authority : Option (List ℕ)) (kept : List ℕ) → IsForm text scheme authority kept
    → (StartsOrigin text × IsPathInput text) ⊎ ((IsAuthority text × (text ≢ codes "*")) ⊎ Absolute text)
form_from text None None kept h = inl h.0
form_from text None (Some a) kept h = inr (inl (h.0, h.1))
form_from text (Some s) None kept h = absurd h
form_from text (Some s) (Some a) kept h = inr (inr (absolute_from text s a kept h))

-- the test tells exactly which texts spell a URI
pub is_uri_decides : (text : List ℕ) → Decides (is_uri text) (IsUri text)
unfolding is_uri
is_uri_decides text =
    Decides-like _ (λ h. form_to text h.0 h.1) (λ h. (h.spelled.0, form_from text h.scheme h.authority h.kept h.spelled.1))
    (Decides-and _ _ (at_most_decides (length text) 65534)
    (Decides-or _ _ (origin_decides text) (Decides-or _ _ (authority_form_decides text) (absolute_decides text))))
