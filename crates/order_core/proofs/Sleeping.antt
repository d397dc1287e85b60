-- Which cores wait, as a walk looks at a core that has ended, waits, or comes next.
use Rattle.std.proofs.Common.{◌≡◌, ◌≢◌, ◌⊎◌, ℕ, zero, suc, ◌+◌, ◌<◌, List, [], ◌∷◌, drop, max, true, false, Option, Some, None, refl, sym, ap, subst, ◌∙◌, inl, inr, arith, ne_eqb, add-one}
use Rattle.std.proofs.lemmas.Bool.{cases_eq}
use Rattle.order_core.specs.declared.entry.Access.{Access}
use Rattle.order_core.specs.declared.entry.Entry.{Entry}
use Rattle.order_core.specs.declared.core_set.CoreSet.{CoreSet}
use Rattle.order_core.specs.CoreSets.{count_in}
use Rattle.order_core.specs.CanonicalMerge.{is_ready, may_touch, least_ready, left_after, raised}
use Rattle.order_core.specs.SetAt.{set_at}
use Rattle.order_core.specs.Walking.{set_for, waits_in, WaitsFor, Waits, OthersWait}
use Rattle.order_core.proofs.SetAtLemmas.{set_at_same, set_at_other}
use Rattle.order_core.proofs.Merging.{least_ready_more, least_ready_found}

-- a core that waits is not ready
pub waits_not_ready : (reached : ℕ → ℕ) (sets : List CoreSet) (core : ℕ) (entries : List Entry) → Waits reached sets core entries → is_ready reached entries ≡ false
waits_not_ready reached sets core [] waits = refl
waits_not_ready reached sets core (entry ∷ entries) waits = by entry.touch refl waits
  where
    by : (touch : Option Access) → entry.touch ≡ touch → WaitsFor reached sets core touch → is_ready reached (entry ∷ entries) ≡ false
    by None is waits = absurd waits
    by (Some access) is waits = ap (may_touch reached) is ∙ ne_eqb access.number (reached access.word) waits.0

-- no core below a number is ready
pub none_below : (left : ℕ → List Entry) (reached : ℕ → ℕ) (count : ℕ) → ((core : ℕ) → core < count → is_ready reached (left core) ≡ false) → least_ready left reached count ≡ None
none_below left reached zero none = refl
none_below left reached (suc count) none =
    ap (least_ready left reached) (sym (add-one count)) ∙ least_ready_more left reached count (none_below left reached count (λ core h. none core (omega arith))) (none count (omega arith))

module _ (left : ℕ → List Entry) (reached : ℕ → ℕ) (awake after : CoreSet) (core : ℕ) (others : (other : ℕ) → other ≢ core → count_in after other ≡ count_in awake other) where
  -- the core has ended
  pub waits_ended : (sets : List CoreSet) → OthersWait left reached awake sets → left core ≡ [] → OthersWait left reached after sets
  waits_ended sets waits ended other asleep = by (cases_eq other core)
    where
      by : (other ≡ core) ⊎ (other ≢ core) → Waits reached sets other (left other)
      by (inl same) = let P : List Entry → Type 0 = Waits reached sets other in subst P (sym (ap left same ∙ ended)) tt
      by (inr apart) = waits other (sym (others other apart) ∙ asleep)

  -- the core begins to wait
  pub waits_more : (sets sets_after : List CoreSet) (entry : Entry) (access : Access) → OthersWait left reached awake sets → left core ≡ entry ∷ drop 1 (left core) → entry.touch ≡ Some access
      → access.number ≢ reached access.word → waits_in sets_after (set_for access.word access.number) core ≡ 1
      → ((place other : ℕ) → waits_in sets place other ≡ 1 → waits_in sets_after place other ≡ 1) → OthersWait left reached after sets_after
  waits_more sets sets_after entry access waits next touch number here still other asleep = by (cases_eq other core)
    where
      kept : (entries : List Entry) → Waits reached sets other entries → Waits reached sets_after other entries
      kept [] w = tt
      kept (e ∷ es) w = touched e.touch w
        where
          touched : (touch : Option Access) → WaitsFor reached sets other touch → WaitsFor reached sets_after other touch
          touched None w = w
          touched (Some a) w = (w.0, still (set_for a.word a.number) other w.1)

      by : (other ≡ core) ⊎ (other ≢ core) → Waits reached sets_after other (left other)
      by (inl same) =
          let P : Option Access → Type 0 = WaitsFor reached sets_after core in
          let Q : List Entry → Type 0 = Waits reached sets_after core in
          let R : ℕ → Type 0 = λ k. Waits reached sets_after k (left k) in
          subst R (sym same) (subst Q (sym next) (subst P (sym touch) (number, here)))
      by (inr apart) = kept (left other) (waits other (sym (others other apart) ∙ asleep))

-- the core comes next, and has no access
pub waits_quiet : (left : ℕ → List Entry) (reached : ℕ → ℕ) (awake : CoreSet) (sets : List CoreSet) (core : ℕ) → OthersWait left reached awake sets → count_in awake core ≡ 1
    → OthersWait (left_after left core) reached awake sets
waits_quiet left reached awake sets core waits mine other asleep =
    let apart : other ≢ core = λ same. absurd (let both = ap (count_in awake) same in omega (arith, both, mine, asleep)) in
    let P : List Entry → Type 0 = Waits reached sets other in
    subst P (sym (set_at_other left core other (drop 1 (left core)) apart)) (waits other asleep)

-- the core comes next with an access, and those wake that wait for the word's next number
pub waits_raised : (left : ℕ → List Entry) (reached : ℕ → ℕ) (awake after : CoreSet) (sets sets_after : List CoreSet) (core : ℕ) (access : Access) → OthersWait left reached awake sets → count_in awake core ≡ 1
    → access.number ≡ reached access.word
    → ((other : ℕ) → count_in after other ≡ max (count_in awake other) (waits_in sets (set_for access.word (access.number + 1)) other))
    → ((place other : ℕ) → place ≢ set_for access.word (access.number + 1) → waits_in sets_after place other ≡ waits_in sets place other)
    → OthersWait (left_after left core) (raised reached (Some access)) after sets_after
waits_raised left reached awake after sets sets_after core access waits mine number woken others other asleep =
    let P : List Entry → Type 0 = Waits (raised reached (Some access)) sets_after other in
    subst P (sym (set_at_other left core other (drop 1 (left core)) apart)) (kept (left other) (waits other still))
  where
    still : count_in awake other ≡ 0
    still = let is = woken other in omega arith

    not_there : waits_in sets (set_for access.word (access.number + 1)) other ≡ 0
    not_there = let is = woken other in omega arith

    apart : other ≢ core
    apart same = absurd (let both = ap (count_in awake) same in omega (arith, both, mine, still))

    kept : (entries : List Entry) → Waits reached sets other entries → Waits (raised reached (Some access)) sets_after other entries
    kept [] w = tt
    kept (e ∷ es) w = touched e.touch w
      where
        touched : (touch : Option Access) → WaitsFor reached sets other touch → WaitsFor (raised reached (Some access)) sets_after other touch
        touched None w = w
        touched (Some a) w = at (cases_eq a.word access.word)
          where
            elsewhere : set_for a.word a.number ≢ set_for access.word (access.number + 1)
            elsewhere same = absurd (let there = ap (λ (place : ℕ). waits_in sets place other) same in omega (arith, there, w.1, not_there))

            here : waits_in sets_after (set_for a.word a.number) other ≡ 1
            here = others (set_for a.word a.number) other elsewhere ∙ w.1

            at : (a.word ≡ access.word) ⊎ (a.word ≢ access.word) → WaitsFor (raised reached (Some access)) sets_after other (Some a)
            at (inl word) = (
              λ now. absurd (elsewhere (
                  let reaches : a.number ≡ access.number + 1 = now ∙ ap (set_at reached access.word (reached access.word + 1)) word ∙ set_at_same reached access.word (reached access.word + 1) ∙ ap (λ (n : ℕ). n + 1) (sym number) in
                  λ i. set_for (word i) (reaches i)
                  )),
              here,
            )
            at (inr word) = (λ now. absurd (w.0 (now ∙ set_at_other reached access.word a.word (reached access.word + 1) word)), here)

-- the least core that is awake is the least that is ready, if it is ready itself; where no core is awake, none is
module _ (left : ℕ → List Entry) (reached : ℕ → ℕ) (awake : CoreSet) (sets : List CoreSet) (waits : OthersWait left reached awake sets) where
  pub least_awake : (count core : ℕ) → ((lower : ℕ) → lower < core → count_in awake lower ≡ 0) → is_ready reached (left core) ≡ true → core < count → least_ready left reached count ≡ Some core
  least_awake count core lower ready h =
      least_ready_found left reached core count (none_below left reached core (λ below k. waits_not_ready reached sets below (left below) (waits below (lower below k)))) ready h

  pub none_awake : (count : ℕ) → ((core : ℕ) → count_in awake core ≡ 0) → least_ready left reached count ≡ None
  none_awake count asleep = none_below left reached count (λ core h. waits_not_ready reached sets core (left core) (waits core (asleep core)))
