-- What one more option, and one more `Connection` value, list.
use Rattle.std.proofs.Common.{◌≡◌, ◌≤◌, ◌<◌, ◌+◌, ℕ, Bool, true, false, List, [], ◌∷◌, ◌++◌, length, get_or, take, map, sym, ap, subst, ◌∙◌, refl, codes}
use Rattle.std.specs.Prelude.{◌||◌, ◌==◌, bytes_eq}
use Rattle.std.specs.List.{list_any, slice_split}
use Rattle.std.proofs.lemmas.List.{take_more, take_all}
use Rattle.std.proofs.lemmas.List.Folds.{list_any-append}
use Rattle.http_header.specs.Token.{lowercase}
use Rattle.httparse.specs.Grammar.{trim_ows}
use Rattle.http1_grammar.specs.Tokens.{connection_options}
use Rattle.http1_head.specs.Asking.{lists_option, ListsOptions}
use Rattle.http1_head.specs.declared.options.ConnectionOptions.{ConnectionOptions}

or_false : (b : Bool) → (b || false) ≡ b
or_false true = refl
or_false false = refl

or_assoc : (a b c : Bool) → ((a || b) || c) ≡ (a || (b || c))
or_assoc true b c = refl
or_assoc false b c = refl

any_of_map : (p : List ℕ → Bool) (f : List ℕ → List ℕ) (xs : List (List ℕ)) → list_any (λ (x : List ℕ). p (f x)) xs ≡ list_any p (map f xs)
any_of_map p f [] = refl
any_of_map p f (x ∷ xs) = ap (λ b. p (f x) || b) (any_of_map p f xs)

pub any_push : (p : List ℕ → Bool) (xs : List (List ℕ)) (x : List ℕ) → list_any p (xs ++ x ∷ []) ≡ (list_any p xs || p x)
any_push p xs x = list_any-append p xs (x ∷ []) ∙ ap (λ b. list_any p xs || b) (or_false (p x))

abbrev pub parts : List ℕ → List (List ℕ)
parts value = slice_split (λ b. b == 44) value

-- whether the part is the option
abbrev pub is_part : List ℕ → List ℕ → Bool
is_part token part = bytes_eq token (lowercase (trim_ows part))

-- the options of these parts came to those
pub record Adds (old : ConnectionOptions) (these : List (List ℕ)) (new : ConnectionOptions) : Type 0 where
  pub close : new.close ≡ (old.close || list_any (is_part (codes "close")) these)
  pub keep_alive : new.keep_alive ≡ (old.keep_alive || list_any (is_part (codes "keep-alive")) these)
  pub upgrade : new.upgrade ≡ (old.upgrade || list_any (is_part (codes "upgrade")) these)

pub adds_none : (old : ConnectionOptions) → Adds old [] old
adds_none old = record {
  close = sym (or_false old.close);
  keep_alive = sym (or_false old.keep_alive);
  upgrade = sym (or_false old.upgrade);
}

adds_one : (token : List ℕ) (all : List (List ℕ)) (i : ℕ) (d : List ℕ) (old mid new : Bool) → i < length all
    → mid ≡ (old || list_any (is_part token) (take i all)) → new ≡ (mid || is_part token (get_or all i d))
    → new ≡ (old || list_any (is_part token) (take (i + 1) all))
adds_one token all i d old mid new l m n =
    n ∙ ap (λ b. b || is_part token (get_or all i d)) m ∙ or_assoc old (list_any (is_part token) (take i all)) (is_part token (get_or all i d))
    ∙ ap (λ b. old || b) (sym (any_push (is_part token) (take i all) (get_or all i d)) ∙ ap (list_any (is_part token)) (sym (take_more all i d l)))

pub adds_more : (all : List (List ℕ)) (i : ℕ) (d : List ℕ) (old mid new : ConnectionOptions) → i < length all
    → Adds old (take i all) mid
    → new.close ≡ (mid.close || is_part (codes "close") (get_or all i d))
    → new.keep_alive ≡ (mid.keep_alive || is_part (codes "keep-alive") (get_or all i d))
    → new.upgrade ≡ (mid.upgrade || is_part (codes "upgrade") (get_or all i d))
    → Adds old (take (i + 1) all) new
adds_more all i d old mid new l h c k u = record {
  close = adds_one (codes "close") all i d old.close mid.close new.close l h.close c;
  keep_alive = adds_one (codes "keep-alive") all i d old.keep_alive mid.keep_alive new.keep_alive l h.keep_alive k;
  upgrade = adds_one (codes "upgrade") all i d old.upgrade mid.upgrade new.upgrade l h.upgrade u;
}

lists_more : (token : List ℕ) (values : List (List ℕ)) (value : List ℕ) (old new : Bool)
    → old ≡ lists_option token values → new ≡ (old || list_any (is_part token) (parts value))
    → new ≡ lists_option token (values ++ value ∷ [])
lists_more token values value old new o n =
    n ∙ ap (λ b. b || list_any (is_part token) (parts value)) o
    ∙ ap (λ b. lists_option token values || b) (any_of_map (bytes_eq token) (λ (option : List ℕ). lowercase (trim_ows option)) (parts value))
    ∙ sym (any_push (λ (v : List ℕ). list_any (bytes_eq token) (connection_options v)) values value)

pub lists_added : (value : List ℕ) (old new : ConnectionOptions) → Adds old (parts value) new
    → (values : List (List ℕ)) → ListsOptions values old → ListsOptions (values ++ value ∷ []) new
lists_added value old new h values l = record {
  close = lists_more (codes "close") values value old.close new.close l.close h.close;
  keep_alive = lists_more (codes "keep-alive") values value old.keep_alive new.keep_alive l.keep_alive h.keep_alive;
  upgrade = lists_more (codes "upgrade") values value old.upgrade new.upgrade l.upgrade h.upgrade;
}

pub adds_all : (all : List (List ℕ)) (i : ℕ) (old new : ConnectionOptions) → length all ≤ i → Adds old (take i all) new → Adds old all new
adds_all all i old new l h = subst (λ (ps : List (List ℕ)). Adds old ps new) (take_all i all l) h
