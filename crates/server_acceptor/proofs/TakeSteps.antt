-- What taking the commands of a source comes to, one after the other.
use Rattle.std.proofs.Common.{◌≡◌, ◌^◌, ◌<◌, ◌≤◌, ◌++◌, ◌∷◌, [], ℕ, ◌+◌, Bool, true, false, List, length, Option, Some, None, refl, sym, ◌∙◌, ap, arith, subst, inl, inr, append_assoc, append-nil, length-append}
use Rattle.std.specs.Option.{option_map}
use Rattle.service_core.specs.Counts.{Rose, risen}
use Rattle.server_commands.specs.Commands.{given_after, idles_after, stops_after, stops_with}
use Rattle.server_commands.specs.declared.commands.Next.TheVariants.{Given, NotYet, Ended}
use Rattle.server_core.specs.declared.command.Command.{Command}
use Rattle.server_run.specs.declared.entry.Entry.{Entry}
use Rattle.server_acceptor.specs.Commanding.{AddsOwn, Obeys, TakesEnd, TakesFirst, stops_behind}
use Rattle.server_acceptor.specs.declared.acceptor.Acceptor.{Acceptor}
use Rattle.server_acceptor.proofs.CommandSteps.{obeys_none, obeys_trans}

-- the source gave so many
pub record TakenSome {L D Co : Type 0} (taken : D → Option (List (Entry L))) (count served : D → ℕ) (given : Co → Option (List Command)) (stops idles : Co → ℕ) (ended : Co → Bool)
    (a b : Acceptor L) (d e : D) (before after : Co) (now k : ℕ) : Type 0 where
  pub came : List Command
  pub many : length came ≡ k
  pub obeys : Obeys taken count served a b d e came now
  pub given_more : given after ≡ option_map (λ before. before ++ came) (given before)
  pub stops_more : stops after ≡ stops_behind came (stops before)
  pub idles_same : idles after ≡ idles before
  pub going : 0 < k → ended after ≡ true → ⊥
  pub over : ended before ≡ true → (came ≡ []) × (ended after ≡ true)

stops_push : (cs : List Command) (c : Command) (n : ℕ) → stops_behind (cs ++ c ∷ []) n ≡ stops_with c (stops_behind cs n)
stops_push [] c n = refl
stops_push (x ∷ cs) c n = stops_push cs c (stops_with x n)

given_none : (given : Option (List Command)) → given ≡ option_map (λ before. before ++ []) given
given_none None = refl
given_none (Some cs) = ap Some (sym (append-nil cs))

given_push : (given : Option (List Command)) (cs : List Command) (c : Command) → option_map (λ before. before ++ c ∷ []) (option_map (λ before. before ++ cs) given) ≡ option_map (λ before. before ++ (cs ++ c ∷ [])) given
given_push None cs c = refl
given_push (Some xs) cs c = ap Some (append_assoc xs cs (c ∷ []))

module _ {L D Co : Type 0} (taken : D → Option (List (Entry L))) (count served : D → ℕ) (given : Co → Option (List Command)) (stops idles : Co → ℕ) (ended : Co → Bool) where
  pub taken_none : (a : Acceptor L) (d : D) (before : Co) (now : ℕ) → (count d < 2 ^ 64) × (served d < 2 ^ 64) → TakenSome taken count served given stops idles ended a a d d before before now 0
  taken_none a d before now fits = record {
    came = [];
    many = refl;
    obeys = obeys_none taken count served a d now fits;
    given_more = given_none (given before);
    stops_more = refl;
    idles_same = refl;
    going = λ some. absurd (omega (arith, some));
    over = λ is. (refl, is);
  }

  module _ (a b : Acceptor L) (d e : D) (before after : Co) (now k : ℕ) (t : TakenSome taken count served given stops idles ended a b d e before after now k) where
    pub taken_more : (c : Acceptor L) (f : D) (asked then_this : Co) (command : Command)
        → given asked ≡ given_after (Given command) (given after) → stops asked ≡ stops_after (Given command) (stops after) → idles asked ≡ idles_after (Given command) (idles after)
        → (ended asked ≡ true → Given command ≡ Ended) → (ended after ≡ true → Given command ≡ Ended)
        → given then_this ≡ given asked → stops then_this ≡ stops asked → idles then_this ≡ idles asked → ended then_this ≡ ended asked
        → Obeys taken count served b c e f (command ∷ []) now → TakenSome taken count served given stops idles ended a c d f before then_this now (k + 1)
    taken_more c f asked then_this command g s i over for_ever gg ss ii oo o = record {
      came = t.came ++ command ∷ [];
      many = omega (arith, t.many, length-append t.came (command ∷ []));
      obeys = obeys_trans taken count served a b c d e f t.came (command ∷ []) now t.obeys o;
      given_more = gg ∙ g ∙ ap (option_map (λ before. before ++ command ∷ [])) t.given_more ∙ given_push (given before) t.came command;
      stops_more = ss ∙ s ∙ ap (stops_with command) t.stops_more ∙ sym (stops_push t.came command (stops before));
      idles_same = ii ∙ i ∙ t.idles_same;
      going = λ some is. let e : Given command ≡ Ended = over (sym oo ∙ is) in absurd (cc);
      over = λ is. let e : Given command ≡ Ended = for_ever (t.over is).1 in absurd (cc);
    }

    -- it gave none
    pub taken_waits : (asked : Co) → given asked ≡ given_after NotYet (given after) → stops asked ≡ stops_after NotYet (stops after) → idles asked ≡ idles_after NotYet (idles after)
        → (ended asked ≡ true → NotYet ≡ Ended) → (ended after ≡ true → NotYet ≡ Ended) → k ≤ 256 → TakesFirst taken count served given stops idles ended a b d e before asked now true
    taken_waits asked g s i over for_ever few = record {
      commands = t.came;
      come = record {
        came = t.came;
        own = [];
        all = sym (append-nil t.came);
        few = omega (arith, t.many, few);
        adds = λ is paused. let e : NotYet ≡ Ended = over is in absurd (cc);
        given_more = g ∙ t.given_more;
        stops_more = s ∙ t.stops_more;
        read = inl (rose asked i);
        over = λ is. let e : NotYet ≡ Ended = for_ever (t.over is).1 in absurd (cc);
      };
      obeys = t.obeys;
      none_left = λ _. rose asked i;
      many = λ is. absurd (let e : true ≡ false = is in cc);
    }
      where
        rose : (asked : Co) → idles asked ≡ risen (idles after) → Rose (idles before) (idles asked)
        rose asked i = omega (arith, i, ap risen t.idles_same)

    -- it ended
    pub taken_ended : (c : Acceptor L) (f : D) (asked : Co) → given asked ≡ given_after Ended (given after) → stops asked ≡ stops_after Ended (stops after) → idles asked ≡ idles_after Ended (idles after)
        → ended asked ≡ true → k ≤ 256 → TakesEnd taken count served b c e f now → TakesFirst taken count served given stops idles ended a c d f before asked now true
    taken_ended c f asked g s i over few own = record {
      commands = t.came ++ own.own;
      come = record {
        came = t.came;
        own = own.own;
        all = refl;
        few = omega (arith, t.many, few);
        adds = subst (λ s. AddsOwn s (ended asked) own.own) t.obeys.core (subst (λ v. AddsOwn b.core v own.own) (sym over) own.adds);
        given_more = g ∙ t.given_more;
        stops_more = s ∙ t.stops_more;
        read = inl (rose asked i);
        over = λ is. ((t.over is).0, over);
      };
      obeys = obeys_trans taken count served a b c d e f t.came own.own now t.obeys own.obeys;
      none_left = λ _. rose asked i;
      many = λ is. absurd (let e : true ≡ false = is in cc);
    }
      where
        rose : (asked : Co) → idles asked ≡ risen (idles after) → Rose (idles before) (idles asked)
        rose asked i = omega (arith, i, ap risen t.idles_same)

    -- it gave as many as are taken
    pub taken_all : k ≡ 256 → TakesFirst taken count served given stops idles ended a b d e before after now false
    taken_all is = record {
      commands = t.came;
      come = record {
        came = t.came;
        own = [];
        all = sym (append-nil t.came);
        few = omega (arith, t.many, is);
        adds = λ over paused. t.going (omega (arith, is)) over;
        given_more = t.given_more;
        stops_more = t.stops_more;
        read = inr (t.many ∙ is);
        over = t.over;
      };
      obeys = t.obeys;
      none_left = λ e. absurd (let f : false ≡ true = e in cc);
      many = λ _. omega (arith, t.many, is);
    }
