-- What was handed on, one entry behind the other.
use Rattle.std.proofs.Common.{◌≡◌, ◌<◌, ◌≤◌, ◌^◌, ◌++◌, ◌∷◌, [], ℕ, ◌+◌, cond, List, length, length-append, Option, None, Some, refl, sym, ◌∙◌, ap, arith, subst, append_assoc}
use Rattle.std.specs.Option.{option_map}
use Rattle.std.proofs.lemmas.Grind.{flat_map-append}
use Rattle.std.proofs.lemmas.List.{append-nil}
use Rattle.std.proofs.lemmas.List.Sums.{sum_by-append}
use Rattle.server_run.specs.Outcome.{is_served}
use Rattle.server_run.specs.declared.entry.Entry.{Entry}
use Rattle.server_jobs.specs.Returning.{HandsFrom, HandsOn, entries_of, one_or_none}

module _ {L T : Type 0} (taken : T → Option (List (Entry L))) (count served spare : T → ℕ) where
  pub hands_none : (d : T) → (count d < 2 ^ 64) × (served d < 2 ^ 64) → HandsOn taken count served spare d d []
  hands_none d small = record {
    adds = record {
      list = same (taken d);
      number = let n = small.0 in omega arith;
      number_served = let n = small.1 in omega arith;
    };
    room = omega arith;
  }
    where
      same : (told : Option (List (Entry L))) → told ≡ option_map (λ before. before ++ []) told
      same None = refl
      same (Some entries) = ap Some (sym (append-nil entries))

  pub hands_trans : (a b c : T) (xs ys : List (Entry L)) → HandsOn taken count served spare a b xs → HandsOn taken count served spare b c ys → HandsOn taken count served spare a c (xs ++ ys)
  hands_trans a b c xs ys p q = record {
    adds = record {
      list = q.adds.list ∙ ap (λ told. option_map (λ before. before ++ ys) told) p.adds.list ∙ joined (taken a);
      number = let n = p.adds.number in let m = q.adds.number in omega (arith, length-append xs ys);
      number_served = let n = p.adds.number_served in let m = q.adds.number_served in omega (arith, sum_by-append (λ (e : Entry L). cond (is_served e.outcome) 1 0) xs ys);
    };
    room = let n = p.room in let m = q.room in omega (arith, length-append xs ys);
  }
    where
      joined : (told : Option (List (Entry L))) → option_map (λ before. before ++ ys) (option_map (λ before. before ++ xs) told) ≡ option_map (λ before. before ++ (xs ++ ys)) told
      joined None = refl
      joined (Some first) = ap Some (append_assoc first xs ys)

  module _ {X : Type 0} (entry_of : X → Option (Entry L)) where
    both : (xs ys : List X) → entries_of entry_of (xs ++ ys) ≡ entries_of entry_of xs ++ entries_of entry_of ys
    both xs ys = flat_map-append (λ x. one_or_none (entry_of x)) xs ys

    pub from_none : (xs : List X) (d : T) → (count d < 2 ^ 64) × (served d < 2 ^ 64) → HandsFrom entry_of taken count served spare xs xs d d
    from_none xs d small = record { went = []; is = refl; hands = hands_none d small }

    pub from_trans : (xs ys zs : List X) (a b c : T) → HandsFrom entry_of taken count served spare xs ys a b → HandsFrom entry_of taken count served spare ys zs b c → HandsFrom entry_of taken count served spare xs zs a c
    from_trans xs ys zs a b c p q = record {
      went = p.went ++ q.went;
      is = p.is ∙ ap (λ l. p.went ++ l) q.is ∙ sym (append_assoc p.went q.went zs);
      hands = subst (HandsOn taken count served spare a c) (sym (both p.went q.went)) (hands_trans a b c (entries_of entry_of p.went) (entries_of entry_of q.went) p.hands q.hands);
    }

    -- the first went
    pub from_first : (x : X) (xs : List X) (a b : T) → HandsOn taken count served spare a b (one_or_none (entry_of x)) → HandsFrom entry_of taken count served spare (x ∷ xs) xs a b
    from_first x xs a b hands = record {
      went = x ∷ [];
      is = refl;
      hands = subst (HandsOn taken count served spare a b) (sym (append-nil (one_or_none (entry_of x)))) hands;
    }

    -- there is room for the first
    pub room_for : (x : X) (xs : List X) (n : ℕ) → length (entries_of entry_of (x ∷ xs)) ≤ n → length (one_or_none (entry_of x)) ≤ n
    room_for x xs n room = let l = length-append (one_or_none (entry_of x)) (entries_of entry_of xs) in omega (arith, room, l)

    -- and for those that are left
    pub room_left : (xs ys : List X) (a b : T) → HandsFrom entry_of taken count served spare xs ys a b → length (entries_of entry_of xs) ≤ spare a → length (entries_of entry_of ys) ≤ spare b
    room_left xs ys a b p room =
        let e = ap (λ l. length (entries_of entry_of l)) p.is in
        let f = ap length (both p.went ys) in
        let l = length-append (entries_of entry_of p.went) (entries_of entry_of ys) in
        let r = p.hands.room in omega (arith, e, f, l, r, room)

    -- all went
    pub from_all : (xs ys : List X) (a b : T) → HandsFrom entry_of taken count served spare xs ys a b → ys ≡ [] → HandsOn taken count served spare a b (entries_of entry_of xs)
    from_all xs ys a b p none = subst (λ l. HandsOn taken count served spare a b (entries_of entry_of l)) (sym (p.is ∙ ap (λ l. p.went ++ l) none ∙ append-nil p.went)) p.hands

  -- lists of entries were handed on one behind the other
  module _ (a b c d e : T) (ws xs ys zs : List (Entry L)) (room : length (ws ++ (xs ++ (ys ++ zs))) ≤ spare a)
      (first : HandsOn taken count served spare a b ws) (second : HandsOn taken count served spare b c xs) where
    lengths : length (ws ++ (xs ++ (ys ++ zs))) ≡ length ws + (length xs + (length ys + length zs))
    lengths = let l = length-append ws (xs ++ (ys ++ zs)) in let m = length-append xs (ys ++ zs) in let n = length-append ys zs in omega (arith, l, m, n)

    pub room_third : length ys ≤ spare c
    room_third = let l = lengths in let p = first.room in let q = second.room in omega (arith, room, l, p, q)

    pub room_fourth : HandsOn taken count served spare c d ys → length zs ≤ spare d
    room_fourth third = let l = lengths in let p = first.room in let q = second.room in let r = third.room in omega (arith, room, l, p, q, r)

    pub all_four : HandsOn taken count served spare c d ys → HandsOn taken count served spare d e zs → HandsOn taken count served spare a e (ws ++ (xs ++ (ys ++ zs)))
    all_four third fourth = hands_trans a b e ws (xs ++ (ys ++ zs)) first (hands_trans b c e xs (ys ++ zs) second (hands_trans c d e ys zs third fourth))
