-- Lanes after writes, and at the start of a function.
use Rattle.std.proofs.Common.{◌≡◌, ℕ, suc, zero, ◌+◌, ◌<◌, ◌≤◌, List, [], ◌∷◌, ◌++◌, Bool, true, false, cond, Some, None, map, refl, sym, ap, ◌∙◌, arith, length, get_or, drop, inl, inr, add-one}
use Rattle.std.proofs.Math.Path.{fun_ext}
use Rattle.std.specs.Prelude.{slice_get, ◌||◌, ◌&&◌, ◌⊎◌, nat_eq, flat_map}
use Rattle.std.proofs.lemmas.Bool.{eqb-true}
use Rattle.std.specs.List.{list_any}
use Rattle.std.specs.Prelude.{◌==◌}
use Rattle.std.proofs.lemmas.List.Folds.{list_any-append}
use Rattle.std.proofs.Math.Seq.{drop-cons}
use Rattle.target_base.specs.declared.types.Unit.{Unit as UnitNumber}
use Rattle.target_base.specs.declared.types.Reg.{Reg}
use Rattle.target_base.specs.declared.types.UnitDesc.{UnitDesc}
use Rattle.target_base.specs.declared.types.Target.{Target}
use Rattle.target_base.specs.Numbers.{unit_number}
use Rattle.target_base.specs.Storage.{is_among, unit_width}
use Rattle.target_base.specs.Registers.{units_of}
use Rattle.meaning.specs.declared.types.Lane.{Lane}
use Rattle.meaning.specs.declared.types.Lane.TheVariants.{VirtualLane, UnitLane, SlotLane}
use Rattle.meaning.specs.declared.types.Fill.{Fill}
use Rattle.meaning.specs.declared.types.Fill.TheVariants.{Moved, Computed}
use Rattle.meaning.specs.declared.types.Source.TheVariants.{FromLane, Undef, Bits}
use Rattle.meaning.specs.declared.types.Write.{Write}
use Rattle.meaning.specs.Lanes.{Writes, same_lane, filled}
use Rattle.meaning.specs.Environment.{Environment, Value, entry_value}
use Rattle.meaning.specs.State.{State, fill, nth, written}
use Rattle.meaning.specs.Code.{entry_lane, start_state}
use Rattle.mir_func.specs.declared.func.Block.{Block}
use Rattle.mir_func.specs.Value.{Function}
use Rattle.mir_meaning.specs.Codes.{is_given, given_of}
use Rattle.mir_interp.specs.Holds.{updated}
use Rattle.mir_interp.specs.Running.{put_in, put_in_turn, reads_no_lane, read_no_lane, given_units}

pub nth_past : (vs : List Value) (n : ℕ) → length vs ≤ n → nth vs n ≡ None
nth_past [] n h = refl
nth_past (v ∷ vs) zero h = absurd (omega arith)
nth_past (v ∷ vs) (suc n) h = nth_past vs n (omega arith)

pub nth_there : (vs : List Value) (n : ℕ) → n < length vs → nth vs n ≡ get_or vs n None
nth_there [] n h = absurd (omega arith)
nth_there (v ∷ vs) zero h = refl
nth_there (v ∷ vs) (suc n) h = nth_there vs n (omega arith)

chosen : (env : Environment) (rs : List Value) (st : State) (b : Bool) (f g : Fill) (v : Value) → v ≡ fill env rs st g → cond b (fill env rs st f) v ≡ fill env rs st (cond b f g)
chosen env rs st true f g v e = refl
chosen env rs st false f g v e = e

pub written_is : (env : Environment) (rs : List Value) (st : State) (ws : Writes) (l : Lane) → put_in ws (map (λ w. fill env rs st w.fill) ws) st l ≡ written env rs ws st l
written_is env rs st [] l = refl
written_is env rs st (w ∷ ws) l = chosen env rs st (same_lane w.lane l) w.fill (filled ws l) _ (written_is env rs st ws l)

pub put_more : (ws : Writes) (vs : List Value) (st : State) (l : Lane) (i : ℕ) (d : Write) → i < length ws → i < length vs → put_in (drop i ws) (drop i vs) st l ≡ cond (same_lane (get_or ws i d).lane l) (get_or vs i None) (put_in (drop (suc i) ws) (drop (suc i) vs) st l)
put_more ws vs st l i d h g =
    ap (λ t. put_in t (drop i vs) st l) (drop-cons ws i d h) ∙ ap (λ t. put_in (get_or ws i d ∷ drop (suc i) ws) t st l) (drop-cons vs i None g)

-- units that are given in two lots
either : (a b : Bool) (v w : Value) → cond (a || b) v w ≡ cond b v (cond a v w)
either true true v w = refl
either true false v w = refl
either false b v w = refl

among_append : (us vs : List UnitNumber) (u : UnitNumber) → is_among (us ++ vs) u ≡ (is_among us u || is_among vs u)
among_append us vs u = list_any-append (λ v. v.0 == u.0) us vs

pub given_append : (env : Environment) (units : List UnitDesc) (us vs : List UnitNumber) (st : State) (l : Lane) → given_units env units (us ++ vs) st l ≡ given_units env units vs (given_units env units us st) l
given_append env units us vs st (VirtualLane v k) = refl
given_append env units us vs st (UnitLane u) =
    ap (λ b. cond b (entry_value env (unit_width units (unit_number u)) u) (st (UnitLane u))) (among_append us vs (unit_number u))
    ∙ either (is_among us (unit_number u)) (is_among vs (unit_number u)) (entry_value env (unit_width units (unit_number u)) u) (st (UnitLane u))
given_append env units us vs st (SlotLane s k w) = refl

pub given_same : (env : Environment) (units : List UnitDesc) (us : List UnitNumber) (st st' : State) → ((l : Lane) → st l ≡ st' l) → (l : Lane) → given_units env units us st l ≡ given_units env units us st' l
given_same env units us st st' h (VirtualLane v k) = h (VirtualLane v k)
given_same env units us st st' h (UnitLane u) = ap (cond (is_among us (unit_number u)) (entry_value env (unit_width units (unit_number u)) u)) (h (UnitLane u))
given_same env units us st st' h (SlotLane s k w) = h (SlotLane s k w)

among_flat : (t : Target) (rs : List Reg) (u : UnitNumber) → is_among (flat_map (units_of t) rs) u ≡ list_any (λ r. is_among (units_of t r) u) rs
among_flat t [] u = refl
among_flat t (r ∷ rs) u = among_append (units_of t r) (flat_map (units_of t) rs) u ∙ ap (λ b. is_among (units_of t r) u || b) (among_flat t rs u)

lane_given : (env : Environment) (u w : ℕ) (r l : Bool) (v : Value) → v ≡ None → cond l (entry_value env w u) (cond r (entry_value env w u) v) ≡ entry_lane env u (cond (r || l) (Some w) None)
lane_given env u w true true v e = refl
lane_given env u w true false v e = refl
lane_given env u w false true v e = refl
lane_given env u w false false v e = e

-- the lanes of a function's start
pub begins : (env : Environment) (t : Target) (f : Function) (b : Block) (bs : List Block) (st : State) → f.blocks ≡ (b ∷ bs) → ((l : Lane) → st l ≡ None) → (l : Lane) → given_units env t.units (flat_map (units_of t) b.liveins) (given_units env t.units t.reserved st) l ≡ start_state env (given_of t f) l
begins env t f b bs st e h (VirtualLane v k) = h (VirtualLane v k)
begins env t f b bs st e h (UnitLane u) =
    let w = unit_width t.units (unit_number u) in
    ap (λ x. cond x (entry_value env (unit_width t.units (unit_number u)) u) (cond (is_among t.reserved (unit_number u)) (entry_value env (unit_width t.units (unit_number u)) u) (st (UnitLane u)))) (among_flat t b.liveins (unit_number u))
    ∙ (lane_given env u (unit_width t.units (unit_number u)) (is_among t.reserved (unit_number u)) (list_any (λ r. is_among (units_of t r) (unit_number u)) b.liveins) (st (UnitLane u)) (h (UnitLane u))
    ∙ ap (λ x. entry_lane env u (cond (is_given t x u) (Some (unit_width t.units (unit_number u))) None)) (sym e))
begins env t f b bs st e h (SlotLane s k w) = h (SlotLane s k w)

-- an element and those behind it, of a list that was mapped
pub drop_mapped : {X Y : Type 0} (f : X → Y) (xs : List X) (k : ℕ) (d : X) → k < length xs → drop k (map f xs) ≡ (f (get_or xs k d) ∷ drop (suc k) (map f xs))
drop_mapped f [] k d h = absurd (omega arith)
drop_mapped f (x ∷ xs) zero d h = refl
drop_mapped f (x ∷ xs) (suc k) d h = drop_mapped f xs k d (omega arith)

-- writes one after another
unread_fill : (env : Environment) (rs : List Value) (st st' : State) (f : Fill) → reads_no_lane f ≡ true → fill env rs st f ≡ fill env rs st' f
unread_fill env rs st st' (Moved (FromLane l)) h = absurd (cc)
unread_fill env rs st st' (Moved Undef) h = refl
unread_fill env rs st st' (Moved (Bits c low w)) h = refl
unread_fill env rs st st' (Computed i) h = refl

both_hold : (b c : Bool) → (b && c) ≡ true → (b ≡ true) × (c ≡ true)
both_hold true c h = (refl, h)
both_hold false c h = absurd (cc)

one_of : (env : Environment) (rs : List Value) (st : State) (b : Bool) (f g : Fill) (u v : Value) → u ≡ fill env rs st f → v ≡ fill env rs st g → cond b u v ≡ fill env rs st (cond b f g)
one_of env rs st true f g u v e d = e
one_of env rs st false f g u v e d = d

turn_unread : (env : Environment) (rs : List Value) (st : State) (ws : Writes) (l : Lane) → read_no_lane ws ≡ true → put_in_turn env rs ws st l ≡ written env rs ws st l
turn_unread env rs st [] l h = refl
turn_unread env rs st (w ∷ ws) l h =
    let p = both_hold (reads_no_lane w.fill) (read_no_lane ws) h in
    one_of env rs st (same_lane w.lane l) w.fill (filled ws l) _ _ (unread_fill env rs (put_in_turn env rs ws st) st w.fill p.0) (turn_unread env rs st ws l p.1)

turn_few : (env : Environment) (rs : List Value) (st : State) (ws : Writes) (l : Lane) → length ws < 2 → put_in_turn env rs ws st l ≡ written env rs ws st l
turn_few env rs st [] l h = refl
turn_few env rs st (w ∷ []) l h = one_of env rs st (same_lane w.lane l) w.fill (Moved (FromLane l)) (fill env rs st w.fill) (st l) refl refl
turn_few env rs st (w ∷ v ∷ ws) l h = absurd (omega arith)

pub turn_written : (env : Environment) (rs : List Value) (st : State) (ws : Writes) → (length ws < 2) ⊎ (read_no_lane ws ≡ true) → put_in_turn env rs ws st ≡ written env rs ws st
turn_written env rs st ws (inl h) = fun_ext (λ l. turn_few env rs st ws l h)
turn_written env rs st ws (inr h) = fun_ext (λ l. turn_unread env rs st ws l h)

pub turn_more : (env : Environment) (rs : List Value) (st s s' : State) (ws : Writes) (i : ℕ) (d : Write) (v : Value) → i < length ws → s ≡ put_in_turn env rs (drop (suc i) ws) st → v ≡ fill env rs s (get_or ws i d).fill → ((m : Lane) → s' m ≡ updated s (get_or ws i d).lane v m) → s' ≡ put_in_turn env rs (drop i ws) st
turn_more env rs st s s' ws i d v lt hs hv h =
    let w = get_or ws i d in
    fun_ext h
    ∙ (ap (λ u. updated s (get_or ws i d).lane u) hv
    ∙ (ap (λ t. updated t (get_or ws i d).lane (fill env rs t (get_or ws i d).fill)) hs
    ∙ ap (λ t. put_in_turn env rs t st) (sym (drop-cons ws i d lt))))

pub put_next : (ws : Writes) (vs : List Value) (st s s' : State) (i j k : ℕ) (w : Write) → j ≡ i → k ≡ suc i → i < length ws → i < length vs → ((l : Lane) → s l ≡ put_in (drop k ws) (drop k vs) st l) → ((m : Lane) → s' m ≡ updated s (get_or ws i w).lane (get_or vs i None) m) → (l : Lane) → s' l ≡ put_in (drop j ws) (drop j vs) st l
put_next ws vs st s s' i j k w ej ek h g inv set l =
    set l
    ∙ (ap (cond (same_lane (get_or ws i w).lane l) (get_or vs i None)) (inv l ∙ ap (λ t. put_in (drop t ws) (drop t vs) st l) ek)
    ∙ (sym (put_more ws vs st l i w h g)
    ∙ ap (λ t. put_in (drop t ws) (drop t vs) st l) (sym ej)))

pub turn_next : (env : Environment) (rs : List Value) (st s s' : State) (ws : Writes) (i j k : ℕ) (w : Write) (v : Value) → j ≡ i → k ≡ suc i → i < length ws → w ≡ get_or ws i w → s ≡ put_in_turn env rs (drop k ws) st → v ≡ fill env rs s w.fill → ((m : Lane) → s' m ≡ updated s w.lane v m) → s' ≡ put_in_turn env rs (drop j ws) st
turn_next env rs st s s' ws i j k w v ej ek lt e inv hv set =
    turn_more env rs st s s' ws i w v lt (inv ∙ ap (λ t. put_in_turn env rs (drop t ws) st) ek) (hv ∙ ap (λ t. fill env rs s t.fill) e) (λ m. set m ∙ ap (λ t. updated s t.lane v m) e)
    ∙ ap (λ t. put_in_turn env rs (drop t ws) st) (sym ej)

pub written_by : (env : Environment) (rs : List Value) (st s' : State) (ws : Writes) (vs given : List Value) → given ≡ vs → vs ≡ map (λ w. fill env rs st w.fill) ws → ((l : Lane) → s' l ≡ put_in ws given st l) → s' ≡ written env rs ws st
written_by env rs st s' ws vs given e f h = fun_ext (λ l. h l ∙ (ap (λ t. put_in ws t st l) (e ∙ f) ∙ written_is env rs st ws l))

number_same : (u : UnitNumber) (x : ℕ) → u.0 ≡ x → u ≡ unit_number x
number_same u x e = ap unit_number e

one_unit : (env : Environment) (units : List UnitDesc) (u : UnitNumber) (s : State) (v : Value) (x : ℕ) → v ≡ entry_value env (unit_width units u) u.0 → (b : Bool) → nat_eq u.0 x ≡ b → cond (nat_eq u.0 x) v (s (UnitLane x)) ≡ cond (nat_eq u.0 x || false) (entry_value env (unit_width units (unit_number x)) x) (s (UnitLane x))
one_unit env units u s v x e true h =
    let same : u.0 ≡ x = eqb-true u.0 x h in
    rw h (e ∙ (ap (λ t. entry_value env (unit_width units u) t) same ∙ ap (λ t. entry_value env (unit_width units t) x) (number_same u x same)))
one_unit env units u s v x e false h = rw h refl

one_given : (env : Environment) (units : List UnitDesc) (u : UnitNumber) (s : State) (v : Value) → v ≡ entry_value env (unit_width units u) u.0 → (l : Lane) → updated s (UnitLane u.0) v l ≡ given_units env units (u ∷ []) s l
one_given env units u s v e (VirtualLane x k) = refl
one_given env units u s v e (SlotLane x k w) = refl
one_given env units u s v e (UnitLane x) = one_unit env units u s v x e (nat_eq u.0 x) refl

-- units given one after another
pub given_next : (env : Environment) (units : List UnitDesc) (us : List UnitNumber) (st s s' : State) (i : ℕ) (d : UnitNumber) (v : Value) → i < length us → v ≡ entry_value env (unit_width units (get_or us i d)) (get_or us i d).0 → ((a : Lane) → s' a ≡ updated s (UnitLane (get_or us i d).0) v a) → ((a : Lane) → given_units env units (drop i us) s a ≡ given_units env units us st a) → (a : Lane) → given_units env units (drop (i + 1) us) s' a ≡ given_units env units us st a
given_next env units us st s s' i d v lt hv set inv a =
    given_same env units (drop (i + 1) us) s' (given_units env units (get_or us i d ∷ []) s) (λ l. set l ∙ one_given env units (get_or us i d) s v hv l) a
    ∙ (sym (given_append env units (get_or us i d ∷ []) (drop (i + 1) us) s a)
    ∙ (ap (λ t. given_units env units t s a) (sym (drop-cons us i d lt ∙ ap (λ n. get_or us i d ∷ drop n us) (sym (add-one i))))
    ∙ inv a))

pub given_none : (env : Environment) (units : List UnitDesc) (s : State) (a : Lane) → given_units env units [] s a ≡ s a
given_none env units s (VirtualLane v k) = refl
given_none env units s (UnitLane u) = refl
given_none env units s (SlotLane x k w) = refl

pub given_flat_next : (env : Environment) (t : Target) (rs : List Reg) (st s s' : State) (i : ℕ) (r : Reg) (us : List UnitNumber) → i < length rs → us ≡ units_of t (get_or rs i r) → ((a : Lane) → s' a ≡ given_units env t.units us s a) → ((a : Lane) → given_units env t.units (flat_map (units_of t) (drop i rs)) s a ≡ given_units env t.units (flat_map (units_of t) rs) st a) → (a : Lane) → given_units env t.units (flat_map (units_of t) (drop (i + 1) rs)) s' a ≡ given_units env t.units (flat_map (units_of t) rs) st a
given_flat_next env t rs st s s' i r us lt hu set inv a =
    given_same env t.units (flat_map (units_of t) (drop (i + 1) rs)) s' (given_units env t.units us s) set a
    ∙ (sym (given_append env t.units us (flat_map (units_of t) (drop (i + 1) rs)) s a)
    ∙ (ap (λ u. given_units env t.units (u ++ flat_map (units_of t) (drop (i + 1) rs)) s a) hu
    ∙ (ap (λ x. given_units env t.units (flat_map (units_of t) x) s a) (sym (drop-cons rs i r lt ∙ ap (λ n. get_or rs i r ∷ drop n rs) (sym (add-one i))))
    ∙ inv a)))

pub begun : (env : Environment) (t : Target) (f : Function) (b : Block) (bs : List Block) (st s s' : State) (reserved : List UnitNumber) (liveins : List Reg) → f.blocks ≡ (b ∷ bs) → reserved ≡ t.reserved → liveins ≡ b.liveins → ((l : Lane) → st l ≡ None) → ((l : Lane) → s l ≡ given_units env t.units reserved st l) → ((l : Lane) → s' l ≡ given_units env t.units (flat_map (units_of t) liveins) s l) → s' ≡ start_state env (given_of t f)
begun env t f b bs st s s' reserved liveins eb er el none hs hs' = fun_ext (λ l.
    hs' l
    ∙ (given_same env t.units (flat_map (units_of t) liveins) s (given_units env t.units reserved st) hs l
    ∙ (ap (λ x. given_units env t.units (flat_map (units_of t) x) (given_units env t.units reserved st) l) el
    ∙ (ap (λ x. given_units env t.units (flat_map (units_of t) b.liveins) (given_units env t.units x st) l) er
    ∙ begins env t f b bs st eb none l))))

pub first_block : (bs : List Block) (b : Block) → Some b ≡ slice_get bs 0 → (rest : List Block) × (bs ≡ (b ∷ rest))
first_block [] b h = absurd (cc)
first_block (x ∷ bs) b h = let e : x ≡ b = cc in (bs, ap (λ t. t ∷ bs) e)

pub same_blocks : (f g : Function) → f ≡ g → f.blocks ≡ g.blocks
same_blocks f g e = ap (λ (v : Function). v.blocks) e
