-- Each step on a flag's word keeps its rule.
use Rattle.std.proofs.Common.{◌≡◌, ℕ, ◌+◌, ◌≤◌, [], get_or, set, sym, refl, ◌∙◌, subst, arith, length-set, get_or-set_same, ⊎_elim}
use mathlib.Core.Option.{none, some}
use lib.ListN.{get_elem?}
use Rattle.atomic_table.specs.Table.{State, Me, step, keeps, stepped, Allows, Enters}
use Rattle.atomic_table.proofs.Lists.{at_set, at_snoc}
use Rattle.server_commands.specs.Flags.{IsRising, came, raised, read, unseen}
use Rattle.server_commands.specs.declared.flag.Look.{Look}

abbrev S : Type 0
S = State (Unit {0}) Look

abbrev M : Type 0
M = Me (Unit {0}) Look

-- no end knows of more than n, where this one now knows of no more
known : (s : S) (n id : ℕ) (w : Look) → ((k : ℕ) (look : Look) → get_elem? s.views k ≡ some look → look.seen ≤ n) → w.seen ≤ n
    → (k : ℕ) (look : Look) → get_elem? (set s.views id w) k ≡ some look → look.seen ≤ n
known s n id w all this k look at = ⊎_elim
    (λ here. let same : w ≡ look = here.1 in subst (λ (l : Look). l.seen ≤ n) same this)
    (λ there. all k look there.1)
    (at_set s.views id k w look at)

-- the word becomes n, which is no less, and this end knows of no more than that
placed : (s : S) → IsRising s → (n id : ℕ) (me : M) (w : Look) → n ≤ 1 → get_or s.words 0 0 ≤ n → w.seen ≤ n → IsRising (stepped s 0 n id me.1 w keeps)
placed s r n id me w small more this =
    let one = r.one in
    let there : get_or (set s.words 0 n) 0 0 ≡ n = get_or-set_same s.words 0 n 0 (omega (arith, one)) in
    record {
      one = length-set s.words 0 n ∙ one;
      small = subst (λ (z : ℕ). z ≤ 1) (sym there) small;
      seen = λ k look at. subst (λ (z : ℕ). look.seen ≤ z) (sym there) (known s n id w (λ j other found. let e = r.seen j other found in omega (arith, e, more)) this k look at);
    }

pub reads : (slots id : ℕ) (me : M) → Allows IsRising slots id me 0 (λ n. n) (read (step slots 0 0 0 none) me)
reads slots id me s r homes at fits =
    let w : Look = record { reads = me.0.reads + 1; seen = get_or s.words 0 0 } in
    let small = r.small in
    let same : get_or s.words 0 0 ≤ get_or s.words 0 0 = omega arith in
    (w, keeps, tt, placed s r (get_or s.words 0 0) id me w small same same, record { reads = refl; seen = refl; small = small; onward = r.seen id me.0 at })

pub raises : (slots id : ℕ) (me : M) → Allows IsRising slots id me 0 (λ _. 1) (λ _. raised (step slots 0 1 0 none) me 1)
raises slots id me s r homes at fits =
    let w : Look = record { reads = me.0.reads; seen = 1 } in
    let small = r.small in
    (w, keeps, tt, placed s r 1 id me w (omega arith) small (omega arith), refl)

pub comes : (slots : ℕ) → Enters IsRising slots 0 (λ n w. came (step slots 0 0 0 none) (unseen, []) n (w, []))
comes slots s r homes fits = (
  unseen,
  record {
    one = r.one;
    small = r.small;
    seen = λ k look at. ⊎_elim
        (λ there. r.seen k look there)
        (λ (here : unseen ≡ look). subst (λ (l : Look). l.seen ≤ get_or s.words 0 0) here (omega arith))
        (at_snoc s.views unseen look k at);
  },
  refl,
)
