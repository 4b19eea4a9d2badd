-- How an echo goes on, and how it ends.
use Rattle.std.proofs.Common.{◌≡◌, ℕ, List, [], ◌++◌, length, take, drop, arith, sym, ap, ◌∙◌, refl, unwrap_or, Option, Some, None, Result, Ok, Err, append_assoc, append-nil, length-append, subst}
use Rattle.std.specs.Prelude.{IfSome}
use Rattle.std.proofs.lemmas.List.{take-append-drop, drop-drop, drop_all, length-take-le}
use Rattle.service_core.specs.Holding.{OfKept}
use Rattle.service_core.specs.Link.{HandsOver, Reads}
use Rattle.service_core.specs.declared.link.Link.{Ghosts as LinkOf}
use Rattle.http_flow.specs.declared.framed.Handed.{Handed}
use Rattle.http_flow.specs.declared.framed.HandedEnd.{HandedEnd}
use Rattle.http_flow.specs.declared.framed.HandedEnd.TheVariants.{Done, Fault, Memory}
use Rattle.http_flow.specs.Upgrading.{Grew}
use Rattle.handlers.specs.Echoing.{EchoEnds, Echoed, Echoes, GivesEcho, Steps, Took}

grew_more : (a b c : Option (List ℕ)) (x y : List ℕ) → Grew a b x → Grew b c y → Grew a c (x ++ y)
grew_more None b c x y p q = rw p at q
grew_more (Some w) b c x y p q = (rw p at q) ∙ ap Some (append_assoc w x y)

grew_none : (a : Option (List ℕ)) → Grew a a []
grew_none None = refl
grew_none (Some w) = ap Some (sym (append-nil w))

module _ {L : Type 0} (g : LinkOf L) where
  took_more : (a b c : L) (x y : List ℕ) (o : Option (List ℕ)) → IfSome o (Took g a b x) → IfSome o (Took g b c y)
      → IfSome o (Took g a c (x ++ y))
  took_more a b c x y None s t = tt
  took_more a b c x y (Some all) s t = record {
    count = omega (arith, s.count, t.count, length-append x y);
    bytes = append_assoc x y (drop (g.taken c) all) ∙ ap (λ z. x ++ z) t.bytes ∙ s.bytes;
  }

  took_none : (a b : L) (o : Option (List ℕ)) → g.taken b ≡ g.taken a → IfSome o (Took g a b [])
  took_none a b None e = tt
  took_none a b (Some all) e = record { count = omega (arith, e); bytes = ap (λ n. drop n all) e }

  -- one behind the other
  pub echoes_more : (a b c : L) (before between left : List ℕ) → Echoes g a b before between → Echoes g b c between left
      → Echoes g a c before left
  echoes_more a b c before between left x y = record {
    got = x.got ++ y.got;
    put = x.put ++ y.put;
    same = y.same ∙ x.same;
    took = took_more a b c x.got y.got (g.identity a).held x.took
        (subst (λ i. IfSome i.held (Took g b c y.got)) x.same y.took);
    grew = grew_more _ _ _ _ _ x.grew y.grew;
    is = sym (append_assoc before x.got y.got) ∙ ap (λ z. z ++ y.got) x.is ∙ append_assoc x.put between y.got
        ∙ ap (λ z. x.put ++ z) y.is ∙ sym (append_assoc x.put y.put left);
  }

  pub steps_start : (a : L) (before : List ℕ) → Steps g a a before before
  steps_start a before = record {
    echoes = record { got = []; put = []; same = refl; took = took_none a a (g.identity a).held refl; grew = grew_none (g.written a); is = append-nil before };
    read_faults = refl;
    write_faults = refl;
  }

  pub steps_more : (a b c : L) (before between after : List ℕ) → Steps g a b before between → Steps g b c between after
      → Steps g a c before after
  steps_more a b c before between after x y = record {
    echoes = echoes_more a b c before between after x.echoes y.echoes;
    read_faults = y.read_faults ∙ x.read_faults;
    write_faults = y.write_faults ∙ x.write_faults;
  }

  ends_more : (a b c : L) (before between left : List ℕ) (end : HandedEnd) → Steps g a b before between → EchoEnds g b c left end
      → EchoEnds g a c left end
  ends_more a b c before between left Done x h = (h.0, subst (λ i. IfSome i.held (λ all. drop (g.taken c) all ≡ [])) x.echoes.same h.1)
  ends_more a b c before between left Fault x h = rw (x.read_faults, x.write_faults) at h
  ends_more a b c before between left Memory x h = tt

  -- the end of an echo that has gone on before
  pub echoed_more : (a b : L) (before between : List ℕ) (handed : Handed L) → Steps g a b before between → Echoed g b between handed
      → Echoed g a before handed
  echoed_more a b before between handed x h = record {
    left = h.left;
    echoes = echoes_more a b handed.link before between h.left x.echoes h.echoes;
    ends = ends_more a b handed.link before between h.left handed.end x h.ends;
  }

  pub gives_more : {E : Type 0} (a b : L) (before between : List ℕ) (r : Result (Handed L) E) → Steps g a b before between
      → GivesEcho g b between r → GivesEcho g a before r
  gives_more a b before between (Ok handed) x h = echoed_more a b before between handed x h
  gives_more a b before between (Err e) x h = h

  -- a link that is kept
  pub kept_gives : {E : Type 0} (a : L) (before : List ℕ) (r : Result (Handed L) E)
      → OfKept (Some a) (λ link. GivesEcho g link before r) → GivesEcho g a before r
  kept_gives a before r h = subst (λ link. GivesEcho g link before r) (ap (λ o. unwrap_or o a) (sym h.is)) h.holds

  -- the first n bytes that waited were written
  pub steps_write : (a b : L) (before : List ℕ) (n : ℕ) → g.identity b ≡ g.identity a
      → Grew (g.written a) (g.written b) (take n before) → g.taken b ≡ g.taken a
      → g.read_faults b ≡ g.read_faults a → g.write_faults b ≡ g.write_faults a → Steps g a b before (drop n before)
  steps_write a b before n same grew taken reads writes = record {
    echoes = record {
      got = [];
      put = take n before;
      same = same;
      took = took_none a b (g.identity a).held taken;
      grew = grew;
      is = append-nil before ∙ sym (take-append-drop n before);
    };
    read_faults = reads;
    write_faults = writes;
  }

  -- the first n bytes of the buffer were read
  pub echoes_taken : (a b : L) (before : List ℕ) (n : ℕ) (buf : List ℕ) → g.identity b ≡ g.identity a → g.written b ≡ g.written a
      → Reads (g.identity a).held (g.taken a) (g.taken b) n buf → Echoes g a b before (before ++ take n buf)
  echoes_taken a b before n buf same written reads = record {
    got = take n buf;
    put = [];
    same = same;
    took = each (g.identity a).held reads.bytes;
    grew = rw written (grew_none (g.written a));
    is = refl;
  }
    where
      count_is : length (take n buf) ≡ n
      count_is = length-take-le n buf reads.fits

      each : (o : Option (List ℕ)) → IfSome o (λ all. HandsOver all (g.taken a) (g.taken b) n buf) → IfSome o (Took g a b (take n buf))
      each None h = tt
      each (Some all) h = record {
        count = rw count_is h.exact;
        bytes = rw (h.exact, h.shown) (ap (λ z. take n (drop (g.taken a) all) ++ z) (sym (drop-drop n (g.taken a) all))
            ∙ take-append-drop n (drop (g.taken a) all));
      }

  -- the link has come to its end, where nothing waits
  pub echoed_end : (a b : L) (before buf : List ℕ) → before ≡ [] → g.identity b ≡ g.identity a → g.written b ≡ g.written a
      → Reads (g.identity a).held (g.taken a) (g.taken b) 0 buf → Echoed g a before (record { link = b; end = Done })
  echoed_end a b before buf none same written reads = record {
    left = before ++ [];
    echoes = echoes_taken a b before 0 buf same written reads;
    ends = (append-nil before ∙ none, each (g.identity a).held reads.bytes);
  }
    where
      each : (o : Option (List ℕ)) → IfSome o (λ all. HandsOver all (g.taken a) (g.taken b) 0 buf) → IfSome o (λ all. drop (g.taken b) all ≡ [])
      each None h = tt
      each (Some all) h = drop_all (g.taken b) all (omega (arith, h.exact, h.last refl))
