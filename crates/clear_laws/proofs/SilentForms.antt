-- Stores to the range's slot, and reloads from it, in place of instructions that move lanes of the range.
use Rattle.std.proofs.Common.{◌≡◌, ◌≤◌, ◌⊎◌, inl, inr, ◌∷◌, ◌++◌, ◌∙◌, ℕ, Bool, true, false, List, length, map, refl, sym, ap, subst, append-nil, eq-eqb, []}
use Rattle.std.proofs.lemmas.Bool.{ltb-true}
use Rattle.std.proofs.lemmas.List.{length-map}
use Rattle.std.specs.Prelude.{nat_eq}
use Rattle.target_base.specs.declared.types.Target.{Target}
use Rattle.meaning.specs.Code.{Code, Silent}
use Rattle.meaning.specs.Lanes.{Writes, filled}
use Rattle.meaning.specs.Live.{Among as Member, KeptAfter, Live, Writing, after_next, is_slot, next}
use Rattle.meaning.specs.declared.types.Fill.TheVariants.{Moved}
use Rattle.meaning.specs.declared.types.Lane.{Lane}
use Rattle.meaning.specs.declared.types.Lane.TheVariants.{SlotLane, UnitLane, VirtualLane}
use Rattle.meaning.specs.declared.types.Source.{Source}
use Rattle.meaning.specs.declared.types.Source.TheVariants.{FromLane, Undef}
use Rattle.meaning.specs.declared.types.Write.{Write}
use Rattle.mir_func.specs.Value.{Function}
use Rattle.mir_meaning.specs.Items.{at_all_widths, moved, undefined}
use Rattle.mir_meaning.specs.Registers.{is_reserved}
use Rattle.instr_effects.proofs.Members.{either-elim, map-of}
use Rattle.lowering_laws.proofs.Traced.{filled-free, filled-right, is_lane_of, is_one, is_written, lanes_by}
use Rattle.spiller.specs.Setting.{Spilling}
use Rattle.spiller.specs.Spilled.{spilled}
use Rattle.spill_laws.specs.Seats.{source_at}
use Rattle.spill_laws.specs.Standing.{IsBeside, IsSite, IsStored, code_before, slot_lane}
use Rattle.spill_laws.proofs.SlotPlaces.{width}
use Rattle.spill_laws.proofs.SlotWrites.{Parallel, both, moved-lane, moved-written, none, not-written, of-one, one-of, parallel, range-given, range-written, slot-lane-of, slot_by, source-among, store_writes, stored-apart, stored-beside, stored-filled, stored-lane, write-of}
use Rattle.clear_laws.specs.Spills.{HasEarlyReload}
use Rattle.clear_laws.proofs.PlaceBounds.{PlainLane, unwritten}
use Rattle.clear_laws.proofs.Replaced.{IsKept, May, Replaces}
use Rattle.clear_laws.proofs.SilentLists.{all-widths-in, moved-early, moved-out, undefined-early, undefined-fill, undefined-in}
use Rattle.clear_laws.proofs.SlotForms.{IsReloading, IsStoring, reload-replaces, store-replaces, which}
use Rattle.clear_laws.proofs.SpillPoints.{goes-on, is-stored, is-wide}
use Rattle.clear_laws.proofs.SplitPoints.{free}

pub range-number : (v j k : ℕ) → VirtualLane v j ≡ VirtualLane v k → j ≡ k
range-number v j k e = cc

slot-number : (n j k u w : ℕ) → SlotLane n j u ≡ SlotLane n k w → (j ≡ k) × (u ≡ w)
slot-number n j k u w e = (cc, cc)

source-lane : (a b : Lane) → FromLane a ≡ FromLane b → a ≡ b
source-lane a b e = cc

moved-inj : (p q : Source) → Moved p ≡ Moved q → p ≡ q
moved-inj p q e = cc

-- a lane of the range is one by its number
own-lane : (v k : ℕ) → is_lane_of v (VirtualLane v k) ≡ true
own-lane v k = eq-eqb v v refl

module _ (s : Spilling) where
  abbrev t : Target
  t = s.target

  abbrev f : Function
  f = s.func

  abbrev v : ℕ
  v = s.range

  abbrev pub IsFine : Lane → Type 0
  IsFine l = PlainLane (length f.classes) v s.slot l

  -- a lane beside the range is one of another range of the function, a unit, or one of a slot
  pub beside-fine : (a : Lane) → IsBeside s a → IsFine a
  beside-fine (UnitLane u) b = tt
  beside-fine (SlotLane n k w) b = tt
  beside-fine (VirtualLane w k) b = (ltb-true w (length f.classes) b.old, λ e. (let q : nat_eq v w ≡ true = eq-eqb v w (sym e) in let r = b.other in cc))

  -- none of the range's lanes is
  pub not-fine : (a : Lane) (k : ℕ) → a ≡ VirtualLane v k → IsFine a → ⊥
  not-fine a k e h = (subst IsFine e h).1 refl

  abbrev pub LiveHere : Code → Lane → Type 0
  LiveHere p l = Live (is_reserved t) (code_before s) p l

  abbrev pub MayHere : Code → Lane → Type 0
  MayHere p l = May t f (spilled s) v s.slot (is-wide s) (is-stored s) p l

  abbrev pub KeptHere : Code → ℕ → Type 0
  KeptHere p k = IsKept t f (spilled s) v s.slot (is-wide s) (is-stored s) p k

  abbrev pub Stands-for : Writes → Writes → Code → Type 0
  Stands-for fs gs p = Replaces t f (spilled s) v s.slot (is-wide s) (is-stored s) (Silent [] fs) (Silent [] gs) p

  -- Lanes of the range get sources ss, and a store gives their lanes of the slot sources us.
  module _ (d : ℕ) (early : Bool) (ks : List ℕ) (ss us : List Source) (p : Code) (long : length ks ≤ length ss) (also : length ks ≤ length us)
      (site : IsSite s d (Silent [] (moved early (lanes_by s.range ks) ss)) p)
      (besides : (a : Lane) → Member (FromLane a) us → IsBeside s a × (is_slot a ≡ false))
      (alike : (k : ℕ) (l : Lane) → is_one ks k ≡ true → source_at ks us k ≡ FromLane l → source_at ks ss k ≡ FromLane l) where
    abbrev fs : Writes
    fs = moved early (lanes_by s.range ks) ss

    abbrev gs : Writes
    gs = store_writes s.slot (width s) t ks us

    abbrev stored : Writes
    stored = moved false (slot_by s.slot (width s) ks) us

    abbrev Wrote-own : ℕ → Type 0
    Wrote-own k = Writing (Silent [] fs) (VirtualLane v k)

    own-of : (k : ℕ) → Wrote-own k → is_one ks k ≡ true
    own-of k z =
        let y = map-of (VirtualLane v) z.0.lane ks (moved-lane early (lanes_by v ks) ss z.0 z.1) in
        subst (λ j. is_one ks j ≡ true) (range-number v y.0 k (sym y.2 ∙ z.2)) (one-of ks y.0 y.1)

    own-in : (k : ℕ) → is_one ks k ≡ true → Wrote-own k
    own-in k e = write-of fs (VirtualLane v k) (range-written v early ks ss k long e)

    unwritten-else : (a : Lane) → ((k : ℕ) → a ≡ VirtualLane v k → ⊥) → filled fs a ≡ Moved (FromLane a)
    unwritten-else a h = filled-free fs a (not-written fs a (λ w m e. let y = map-of (VirtualLane v) w.lane ks (moved-lane early (lanes_by v ks) ss w m) in h y.0 (sym e ∙ y.2)))

    -- what a lane of the slot is given
    data Given (k w : ℕ) (l : Lane) : Type 0 where
      from-source : w ≡ width s k → is_one ks k ≡ true → source_at ks us k ≡ FromLane l → Given k w l
      itself : ((is-wide s w × (is_one ks k ≡ true)) → ⊥) → l ≡ SlotLane s.slot k w → Given k w l

    given : (k w : ℕ) (l : Lane) → filled gs (SlotLane s.slot k w) ≡ Moved (FromLane l) → Given k w l
    given k w l h = go (is_written stored (SlotLane s.slot k w)) refl
      where
        rest : Writes
        rest = undefined false (at_all_widths t s.slot ks)

        go : (b : Bool) → is_written stored (SlotLane s.slot k w) ≡ b → Given k w l
        go true e =
            let z = write-of stored (SlotLane s.slot k w) e in
            let y = slot-lane-of s.slot (width s) ks z.0.lane (moved-lane false (slot_by s.slot (width s) ks) us z.0 z.1) in
            let n = slot-number s.slot y.0 k (width s y.0) w (sym y.2 ∙ z.2) in
            let one : is_one ks k ≡ true = subst (λ j. is_one ks j ≡ true) n.0 (one-of ks y.0 y.1) in
            let wide : w ≡ width s k = sym n.1 ∙ ap (width s) n.0 in
            from-source wide one (moved-inj (source_at ks us k) (FromLane l) (sym (stored-filled s.slot (width s) t ks us k also one) ∙ subst (λ x. filled gs (SlotLane s.slot k x) ≡ Moved (FromLane l)) wide h))
        go false e =
            let q : filled rest (SlotLane s.slot k w) ≡ Moved (FromLane l) = sym (filled-right stored rest (SlotLane s.slot k w) e) ∙ h in
            itself (λ y. (let u = undefined-in false (at_all_widths t s.slot ks) (SlotLane s.slot k w) (all-widths-in t s.slot ks k w (of-one ks k y.1) y.0) in absurd (let r : Moved Undef ≡ Moved (FromLane l) = sym u ∙ q in cc)))
            (undefined-fill false (at_all_widths t s.slot ks) (SlotLane s.slot k w) l q)

    source-in : (k : ℕ) (l : Lane) → is_one ks k ≡ true → source_at ks us k ≡ FromLane l → Member (FromLane l) us
    source-in k l e h = subst (λ q. Member q us) h (source-among ks us k also e)

    storing : IsStoring t f (spilled s) v s.slot (is-wide s) (is-stored s) (goes-on s) fs gs p
    storing = record {
      others = λ a fine unlike. (filled-free gs a (stored-apart s.slot (width s) t ks us a (λ j y m e. unlike j y e)), unwritten-else a (λ k e. not-fine a k e fine));
      slots = λ k u. unwritten-else (SlotLane s.slot k u) (λ j e. (cc));
      own = own-or;
      moves = λ k w l z h n. moves k w l z n (given k w l h);
      over = λ k w l wd z h. over k w l wd z (given k w l h);
      apart = λ k w live z. site.apart k k w (inr z) (inl (after_next refl live));
      stores = λ w m. (let z = stored-lane s.slot (width s) t ks us w m in (z.0, z.1, z.3, own-in z.0 (one-of ks z.0 z.2)));
      late = λ w m. either-elim w stored (undefined false (at_all_widths t s.slot ks)) (moved-early false (slot_by s.slot (width s) ks) us w) (undefined-early false (at_all_widths t s.slot ks) w) m;
    }
      where
        own-or : (k : ℕ) → ((Wrote-own k → ⊥) × ((u : ℕ) → filled gs (SlotLane s.slot k u) ≡ Moved (FromLane (SlotLane s.slot k u)))) ⊎ Wrote-own k
        own-or k = go (is_one ks k) refl
          where
            go : (b : Bool) → is_one ks k ≡ b → ((Wrote-own k → ⊥) × ((u : ℕ) → filled gs (SlotLane s.slot k u) ≡ Moved (FromLane (SlotLane s.slot k u)))) ⊎ Wrote-own k
            go true e = inr (own-in k e)
            go false e = inl ((λ z. (let q = own-of k z in absurd (cc))), λ u. filled-free gs (SlotLane s.slot k u) (stored-beside s.slot (width s) t ks us k u e))

        moves : (k w : ℕ) (l : Lane) → Wrote-own k → is_slot l ≡ false → Given k w l → IsFine l × (filled fs (VirtualLane v k) ≡ Moved (FromLane l))
        moves k w l z n (from-source wide one h) = (beside-fine l (besides l (source-in k l one h)).0, range-given v early ks ss k long one ∙ ap Moved (alike k l one h))
        moves k w l z n (itself apart e) = absurd (let g : is_slot l ≡ true = ap is_slot e in cc)

        over : (k w : ℕ) (l : Lane) → is-wide s w → Wrote-own k → Given k w l → is_slot l ≡ false
        over k w l wd z (from-source wide one h) = (besides l (source-in k l one h)).1
        over k w l wd z (itself apart e) = absurd (apart (wd, own-of k z))

    pub storing-replaces : Stands-for fs gs p
    storing-replaces = store-replaces t f (spilled s) v s.slot (is-wide s) (is-stored s) (goes-on s) fs gs p storing

  abbrev pub from-own : ℕ → Source
  from-own j = FromLane (VirtualLane s.range j)

  -- Lanes of the range go to lanes of another register, which are given other sources.
  module _ (soon : Bool) (ls : List Lane) (os : List ℕ) (G : ℕ → Source) (p : Code) (long : length ls ≤ length os) (other : (a : Lane) → Member a ls → IsBeside s a) (slotless : (a : Lane) → Member a ls → is_slot a ≡ false)
      (gives : (a l : Lane) (j : ℕ) → Member a ls → Member j os → G j ≡ FromLane l → filled (moved false ls (map from-own os)) a ≡ Moved (from-own j)
      → (l ≡ slot_lane s j) × is-wide s (width s j) × (KeptAfter (is_reserved t) (code_before s) (Silent [] (moved false ls (map from-own os))) p a → IsStored s j (Silent [] (moved false ls (map from-own os)) ∷ p)))
      (when : (soon ≡ false) ⊎ ((j : ℕ) (l : Lane) → Member j os → G j ≡ FromLane l → HasEarlyReload t)) where
    abbrev copies : Writes
    copies = moved false ls (map from-own os)

    abbrev loads : Writes
    loads = moved soon ls (map G os)

    lane-in : (a : Lane) → Writing (Silent [] copies) a → Member a ls
    lane-in a z = subst (λ b. Member b ls) z.2 (moved-lane false ls (map from-own os) z.0 z.1)

    lane-loaded : (a : Lane) → Writing (Silent [] loads) a → Member a ls
    lane-loaded a z = subst (λ b. Member b ls) z.2 (moved-lane soon ls (map G os) z.0 z.1)

    -- a lane that holds one of the range's is one of these
    held-in : (a : Lane) (j : ℕ) → IsFine a → filled copies a ≡ Moved (from-own j) → Member a ls
    held-in a j fine h = go (is_written copies a) refl
      where
        go : (b : Bool) → is_written copies a ≡ b → Member a ls
        go true e = lane-in a (write-of copies a e)
        go false e = absurd (not-fine a j (source-lane a (VirtualLane s.range j) (moved-inj (FromLane a) (from-own j) (sym (filled-free copies a e) ∙ h))) fine)

    at-end : (ws : Writes) (a : Lane) (q : Source) → ((us : Writes) → filled (ws ++ us) a ≡ Moved q) → filled ws a ≡ Moved q
    at-end ws a q h = ap (λ us. filled us a) (sym (append-nil ws)) ∙ h []

    reloading : IsReloading t f (spilled s) v s.slot (is-wide s) (is-stored s) (goes-on s) copies loads p
    reloading = record {
      own = λ k z. (let b = other (VirtualLane v k) (lane-in (VirtualLane v k) z) in let q = b.other in let r = own-lane v k in absurd (cc));
      others = λ a fine. by a fine (parallel from-own G false soon ls os a);
      writes = λ l z. (let m = lane-loaded l z in (beside-fine l (other l m), write-of copies l (moved-written false ls (map from-own os) l long-map m)));
      soon = go when;
    }
      where
        long-map : length ls ≤ length (map from-own os)
        long-map = subst (λ n. length ls ≤ n) (sym (length-map os from-own)) long

        by : (a : Lane) → IsFine a → Parallel from-own G os copies loads a → ((filled loads a ≡ Moved (FromLane a)) × (filled copies a ≡ Moved (FromLane a)))
            ⊎ ((is_slot a ≡ false) × ((l : Lane) → filled loads a ≡ Moved (FromLane l) → (k : ℕ) × (w : ℕ) × is-wide s w × (l ≡ SlotLane s.slot k w) × (filled copies a ≡ Moved (FromLane (VirtualLane v k))) × (KeptAfter (is_reserved t) (code_before s) (Silent [] copies) p a → is-stored s (Silent [] copies ∷ p) k)))
        by a fine (none x y) = inl (filled-free loads a y, filled-free copies a x)
        by a fine (both j m x y) =
            let h = at-end copies a (from-own j) x in
            let n = held-in a j fine h in
            inr (slotless a n, λ l e. (let q = gives a l j n m (moved-inj (G j) (FromLane l) (sym (at-end loads a (G j) y) ∙ e)) h in (j, width s j, q.1, q.0, h, q.2)))

        go : (soon ≡ false) ⊎ ((j : ℕ) (l : Lane) → Member j os → G j ≡ FromLane l → HasEarlyReload t)
            → ((w : Write) → Member w loads → w.early ≡ false) ⊎ ((a l : Lane) → filled loads a ≡ Moved (FromLane l) → is_slot a ≡ false → is_slot l ≡ true → HasEarlyReload t)
        go (inl e) = inl (λ w m. moved-early soon ls (map G os) w m ∙ e)
        go (inr h) = inr (λ a l e n y. at a l e n y (is_written loads a) refl)
          where
            at : (a l : Lane) → filled loads a ≡ Moved (FromLane l) → is_slot a ≡ false → is_slot l ≡ true → (b : Bool) → is_written loads a ≡ b → HasEarlyReload t
            at a l e n y true w = let z = map-of G (FromLane l) os (moved-out soon ls (map G os) a l w e) in h z.0 l z.1 (sym z.2)
            at a l e n y false w = absurd (let q : a ≡ l = source-lane a l (moved-inj (FromLane a) (FromLane l) (sym (filled-free loads a w) ∙ e)) in let r = ap is_slot q in cc)

    pub reloading-replaces : Stands-for copies loads p
    reloading-replaces = reload-replaces t f (spilled s) v s.slot (is-wide s) (is-stored s) (goes-on s) copies loads p reloading

  -- An instruction that goes: what may be live behind it may be live before it.
  module _ (fs : Writes) (p : Code)
      (others : (a : Lane) → IsFine a → ((k w : ℕ) → a ≡ SlotLane s.slot k w → ⊥) → filled fs a ≡ Moved (FromLane a))
      (own : (k : ℕ) → (Writing (Silent [] fs) (VirtualLane v k) → ⊥) ⊎ (LiveHere p (VirtualLane v k) → IsStored s k p → KeptHere (Silent [] fs ∷ p) k))
      (slots : (k w : ℕ) → (filled fs (SlotLane s.slot k w) ≡ Moved (FromLane (SlotLane s.slot k w))) ⊎ (is-wide s w × ((u : ℕ) → LiveHere p (SlotLane s.slot k u) → KeptHere (Silent [] fs ∷ p) k))) where
    kept-back : (k : ℕ) → KeptHere p k → KeptHere (Silent [] fs ∷ p) k
    kept-back k (inl z) = go (slots k z.0)
      where
        go : (filled fs (SlotLane s.slot k z.0) ≡ Moved (FromLane (SlotLane s.slot k z.0))) ⊎ (is-wide s z.0 × ((u : ℕ) → LiveHere p (SlotLane s.slot k u) → KeptHere (Silent [] fs ∷ p) k)) → KeptHere (Silent [] fs ∷ p) k
        go (inl e) = inl (z.0, z.1, next refl z.2 e refl)
        go (inr h) = h.1 z.0 z.2
    kept-back k (inr z) = go (own k)
      where
        go : (Writing (Silent [] fs) (VirtualLane v k) → ⊥) ⊎ (LiveHere p (VirtualLane v k) → IsStored s k p → KeptHere (Silent [] fs ∷ p) k) → KeptHere (Silent [] fs ∷ p) k
        go (inl free) = inr (next refl z.0 (unwritten fs (VirtualLane v k) free) refl, (goes-on s).back (Silent [] fs) p k refl free z.1)
        go (inr h) = h z.0 z.1

    pub gone-may : (l : Lane) → MayHere p l → MayHere (Silent [] fs ∷ p) l
    gone-may l (inr z) = inr (record { k = z.k; w = z.w; is = z.is; fits = z.fits; from = kept-back z.k z.from })
    gone-may l (inl z) = go (which s.slot l)
      where
        at : (k w : ℕ) → l ≡ SlotLane s.slot k w → (filled fs (SlotLane s.slot k w) ≡ Moved (FromLane (SlotLane s.slot k w))) ⊎ (is-wide s w × ((u : ℕ) → LiveHere p (SlotLane s.slot k u) → KeptHere (Silent [] fs ∷ p) k)) → MayHere (Silent [] fs ∷ p) l
        at k w e (inl h) = inl (z.0, subst (LiveHere (Silent [] fs ∷ p)) (sym e) (next refl (subst (LiveHere p) e z.1) h refl))
        at k w e (inr h) = inr (record { k = k; w = w; is = e; fits = h.0; from = h.1 w (subst (LiveHere p) e z.1) })

        go : ((k : ℕ) × (w : ℕ) × (l ≡ SlotLane s.slot k w)) ⊎ ((k w : ℕ) → l ≡ SlotLane s.slot k w → ⊥) → MayHere (Silent [] fs ∷ p) l
        go (inl y) = at y.0 y.1 y.2 (slots y.0 y.1)
        go (inr n) = inl (z.0, next refl z.1 (others l z.0 n) (free z.1))
