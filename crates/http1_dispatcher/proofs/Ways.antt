-- How the service of a connection goes on, and how it ends.
use Rattle.std.proofs.Common.{◌≡◌, ◌-◌, ℕ, List, [], ◌∷◌, ◌++◌, length, take, drop, arith, sym, ap, ◌∙◌, refl, Option, Some, None, append_assoc, append-nil, length-append}
use Rattle.std.specs.Prelude.{IfSome}
use Rattle.std.proofs.lemmas.List.{take-append-drop}
use Rattle.http1_grammar.specs.Answers.{Answers, done, after}
use Rattle.service_core.specs.declared.link.Link.{Ghosts as LinkOf}
use Rattle.http_flow.specs.Upgrading.{Grew}
use Rattle.http1_dispatcher.specs.Ending.{OnUntaken, OnTaken, WroteAll, WroteSome, IsServed}
use Rattle.http1_dispatcher.specs.Progress.{Took, Progress}
use Rattle.http1_dispatcher.specs.Moves.{Flushed, KeptWriting, Gave}

pub if_some : {A : Type 0} (P Q : A → Type 0) (o : Option A) → ((x : A) → P x → Q x) → IfSome o P → IfSome o Q
if_some P Q None f h = tt
if_some P Q (Some x) f h = f x h

pub grew_more : (a b c : Option (List ℕ)) (x y : List ℕ) → Grew a b x → Grew b c y → Grew a c (x ++ y)
grew_more None b c x y p q = rw p at q
grew_more (Some w) b c x y p q = (rw p at q) ∙ ap Some (append_assoc w x y)

pub grew_none : (a : Option (List ℕ)) → Grew a a []
grew_none None = refl
grew_none (Some w) = ap Some (sym (append-nil w))

take_front : (xs ys : List ℕ) → take (length xs) (xs ++ ys) ≡ xs
take_front [] ys = refl
take_front (x ∷ xs) ys = ap (λ zs. x ∷ zs) (take_front xs ys)

module _ {L : Type 0} (g : LinkOf L) (served : List ℕ → Answers) where
  -- at the start all is owed
  pub progress_start : (link : L) → Progress g link link served served
  progress_start link = record {
    got = [];
    put = [];
    took = elim (g.identity link).held as (λ o. IfSome o (Took g link link [])) [
      | None ↦ tt
      | Some all ↦ record { count = omega arith; bytes = refl }
    ];
    wrote = grew_none (g.written link);
    goes = λ more. refl;
  }

  pub progress_owes : (before link : L) (a b : List ℕ → Answers) → ((more : List ℕ) → b more ≡ a more)
      → Progress g before link served a → Progress g before link served b
  progress_owes before link a b e p = record {
    got = p.got;
    put = p.put;
    took = p.took;
    wrote = p.wrote;
    goes = λ more. p.goes more ∙ ap (after p.put) (sym (e more));
  }

  pub progress_wrote : (before old new : L) (f : List ℕ → Answers) (out rest : List ℕ)
      → Flushed g old new out rest
      → Progress g before old served (λ more. after out (f more)) → Progress g before new served (λ more. after rest (f more))
  progress_wrote before old new f out rest w p = record {
    got = p.got;
    put = p.put ++ w.put;
    took = if_some _ _ (g.identity before).held (λ all t. record { count = w.wrote.taken ∙ t.count; bytes = rw w.wrote.taken t.bytes }) p.took;
    wrote = grew_more _ _ _ _ _ p.wrote w.wrote.grew;
    goes = λ more. p.goes more ∙ rw w.is (simp append_assoc);
  }

  pub progress_read : (before old new : L) (f : List ℕ → Answers) (unread bytes : List ℕ) → KeptWriting g old new
      → g.identity old ≡ g.identity before → IfSome (g.identity old).held (Gave g old new bytes)
      → Progress g before old served (λ more. f (unread ++ more)) → Progress g before new served (λ more. f ((unread ++ bytes) ++ more))
  progress_read before old new f unread bytes k same gave p = record {
    got = p.got ++ bytes;
    put = p.put;
    took = both (g.identity before).held p.took (rw same at gave);
    wrote = k.written ∙ p.wrote;
    goes = λ more. ap served (append_assoc p.got bytes more) ∙ p.goes (bytes ++ more)
        ∙ ap (λ x. after p.put (f x)) (sym (append_assoc unread bytes more));
  }
    where
      both : (o : Option (List ℕ)) → IfSome o (Took g before old p.got) → IfSome o (Gave g old new bytes)
          → IfSome o (Took g before new (p.got ++ bytes))
      both None t h = tt
      both (Some all) t h = record {
        count = omega (arith, t.count, h.count, length-append p.got bytes);
        bytes = append_assoc p.got bytes (drop (g.taken new) all) ∙ ap (λ x. p.got ++ x) h.bytes_are ∙ t.bytes;
      }

  -- a prefix was written, where what was written last is a prefix of what was owed
  pub wrote_some : (before old new : L) (a : List ℕ → Answers) (put : List ℕ)
      → ((more : List ℕ) → (back : List ℕ) × ((a more).0 ≡ put ++ back))
      → Grew (g.written old) (g.written new) put
      → Progress g before old served a → OnUntaken g served before new (WroteSome g served before new)
  wrote_some before old new a put fits grew p =
      if_some _ _ (g.identity before).held (λ all t.
      let e = fits (drop (g.taken old) all) in
      record {
        front = p.put ++ put;
        back = e.0;
        grew = grew_more _ _ _ _ _ p.wrote grew;
        is = ap (λ x. (served x).0) (sym t.bytes) ∙ ap (λ (x : Answers). x.0) (p.goes (drop (g.taken old) all))
            ∙ ap (λ x. p.put ++ x) e.1 ∙ sym (append_assoc p.put put e.0);
      }) p.took

  -- all was written, where nothing is owed for the bytes that were not taken
  pub ends_served : (before old new : L) (a : List ℕ → Answers)
      → IfSome (g.identity before).held (λ all. a (drop (g.taken old) all) ≡ ([], done))
      → KeptWriting g old new → Progress g before old served a → IsServed g served before new
  ends_served before old new a none k p = record {
    wrote = each (g.identity before).held p.took none;
    is_done = ended (g.identity before).held p.took none;
  }
    where
      whole : (all : List ℕ) → Took g before old p.got all → a (drop (g.taken old) all) ≡ ([], done)
          → served (drop (g.taken before) all) ≡ (p.put, done)
      whole all t e = ap served (sym t.bytes) ∙ p.goes (drop (g.taken old) all) ∙ ap (after p.put) e
          ∙ ap (λ x. (x, done)) (append-nil p.put)

      each : (o : Option (List ℕ)) → IfSome o (Took g before old p.got) → IfSome o (λ all. a (drop (g.taken old) all) ≡ ([], done))
          → IfSome o (λ all. WroteAll g served before new (drop (g.taken before) all))
      each None t e = tt
      each (Some all) t e = rw (whole all t e) (k.written ∙ p.wrote)

      ended : (o : Option (List ℕ)) → IfSome o (Took g before old p.got) → IfSome o (λ all. a (drop (g.taken old) all) ≡ ([], done))
          → IfSome o (λ all. (served (drop (g.taken before) all)).1 ≡ done)
      ended None t e = tt
      ended (Some all) t e = rw (whole all t e) refl

  -- all that was taken was answered
  pub wrote_taken : (before old new : L) (a : List ℕ → Answers) → a [] ≡ ([], done)
      → KeptWriting g old new → g.taken new ≡ g.taken old
      → Progress g before old served a → OnTaken g served before new (WroteAll g served before new)
  wrote_taken before old new a none k taken p =
      if_some _ _ (g.identity before).held (λ all t. rw (was_taken all t, answered) (k.written ∙ p.wrote)) p.took
    where
      answered : served p.got ≡ (p.put, done)
      answered = ap served (sym (append-nil p.got)) ∙ p.goes [] ∙ ap (after p.put) none ∙ ap (λ x. (x, done)) (append-nil p.put)

      was_taken : (all : List ℕ) → Took g before old p.got all
          → take (g.taken new - g.taken before) (drop (g.taken before) all) ≡ p.got
      was_taken all t =
          let n : g.taken new - g.taken before ≡ length p.got = omega (arith, taken, t.count) in
          rw (n, ← t.bytes) (take_front p.got (drop (g.taken old) all))

-- one more write
pub flushed_more : {L : Type 0} (g : LinkOf L) (a b c : L) (before after : List ℕ) (n : ℕ) → Flushed g a b before after
    → g.identity c ≡ g.identity b → Grew (g.written b) (g.written c) (take n after) → g.taken c ≡ g.taken b
    → g.read_faults c ≡ g.read_faults b → g.read_waits c ≡ g.read_waits b → Flushed g a c before (drop n after)
flushed_more g a b c before after n f same grew taken faults waits = record {
  put = f.put ++ take n after;
  is = f.is ∙ ap (λ x. f.put ++ x) (sym (take-append-drop n after)) ∙ sym (append_assoc f.put (take n after) (drop n after));
  wrote = record {
    same = same ∙ f.wrote.same;
    grew = grew_more _ _ _ _ _ f.wrote.grew grew;
    taken = taken ∙ f.wrote.taken;
    read_faults = faults ∙ f.wrote.read_faults;
    read_waits = waits ∙ f.wrote.read_waits;
  };
}
