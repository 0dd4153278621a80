-- An item that has nothing to do with the range stays as it is.
use Rattle.std.proofs.Common.{◌≡◌, ◌∷◌, inl, inr, ◌∙◌, ℕ, Bool, true, false, List, Option, Some, None, length, refl, sym, ap, subst, []}
use Rattle.meaning.specs.Code.{BlockEnd, BlockStart, Code, Counted, Edge, Item, Silent, found}
use Rattle.meaning.specs.Lanes.{Reads, Writes, filled, settled, through}
use Rattle.meaning.specs.Layout.{NoPhisAlong, NoPhisInto}
use Rattle.meaning.specs.Live.{Among, KeptAfter, LiveAfter, after_leap, after_next, exits_of, here, in_order, there, writes_of, Writing}
use Rattle.meaning.specs.Relations.{AlikeFill, AlikeOperands, AlikeReads, Rel, Within, after_both, along}
use Rattle.meaning.specs.Rows.{first_edges, first_target, second_edges, second_target}
use Rattle.meaning.specs.declared.types.Fill.{Fill}
use Rattle.meaning.specs.declared.types.Fill.TheVariants.{Computed, Moved}
use Rattle.meaning.specs.declared.types.Lane.{Lane}
use Rattle.meaning.specs.declared.types.Lane.TheVariants.{VirtualLane}
use Rattle.meaning.specs.declared.types.Source.{Source}
use Rattle.meaning.specs.declared.types.Source.TheVariants.{Bits, FromLane, Undef}
use Rattle.laws.proofs.Core.{Exits, Reaches}
use Rattle.laws.proofs.Flow.{kept_along, kept_next, none_among, read_kept}
use Rattle.laws.proofs.Steps.{both_into, both_ways, filled-none, first-into, first-ways, second-into, second-ways, through-none}
use Rattle.lowering_laws.proofs.Olds.{ReadsOld, SourcesOld, old_source}
use Rattle.lowering_laws.proofs.Stretches.{Stretch, both-counted, lessened}
use Rattle.lowering_laws.proofs.Traced.{filled-free, is_lane_of, is_written}
use Rattle.spiller.specs.Setting.{Spilling}
use Rattle.spill_laws.specs.Standing.{BystandersStand, LeavesRange, IsConstant, KeptIn, LaneStands, LiveIn, OwnStands, PlaceStands, Stands, slot_lane, starts}
use Rattle.spill_laws.proofs.Standing.{C, R, fed-beside, lane-own, live-before, own-back, own-from, silent-place, unwritten}

module _ (s : Spilling) where
  -- what is found for a lane of the range, where the instruction doesn't write its slot's lane
  pub own-stays : (ws : Writes) (p : Code) (k : ℕ) (source : Source) → is_written ws (slot_lane s k) ≡ false → OwnStands s p k source → through ws source ≡ Moved source
  own-stays ws p k source free (inl x) = ap (through ws) x.1 ∙ (filled-free ws (slot_lane s k) free ∙ ap Moved (sym x.1))
  own-stays ws p k source free (inr x) = go source x.constant
    where
      go : (source : Source) → IsConstant source → through ws source ≡ Moved source
      go (Bits c low width) h = refl
      go Undef h = absurd h
      go (FromLane a) h = absurd h

  module _ (i : Item) (p : Code) (x : LeavesRange s i p) where
    abbrev ws : Writes
    ws = writes_of i

    same-fill : (f : Fill) → Stands s (i ∷ p) (settled f) (settled f) → AlikeFill (Stands s (i ∷ p)) f f
    same-fill (Moved q) h = h
    same-fill (Computed n) h = refl

    -- behind it, in order or along a way
    behind : (z : Code) → ((a : Lane) → KeptIn s z a → KeptAfter (R s) (C s) i p a) → ((a : Lane) → LiveIn s z a → LiveAfter (R s) (C s) i p a)
        → ((k : ℕ) (source : Source) → OwnStands s z k source → OwnStands s (i ∷ p) k source)
        → (a : Lane) (source : Source) → LaneStands s z a source → AlikeFill (Stands s (i ∷ p)) (filled ws a) (through ws source)
    behind z kept live own a source (inl b) =
        subst (λ q. AlikeFill (Stands s (i ∷ p)) (filled ws a) (through ws q)) (sym b.2)
        (same-fill (filled ws a) (fed-beside s i p a x.old x.gives b.0 (kept a b.1)))
    behind z kept live own a source (inr b) =
        let k = b.0 in
        let l : LiveAfter (R s) (C s) i p a = live a b.2 in
        let l' : LiveAfter (R s) (C s) i p (VirtualLane s.range k) = subst (LiveAfter (R s) (C s) i p) b.1 l in
        let f : filled ws (VirtualLane s.range k) ≡ Moved (FromLane (VirtualLane s.range k)) = filled-free ws (VirtualLane s.range k) (x.writes k) in
        let e : through ws source ≡ Moved source = own-stays ws z k source (x.apart k l') b.3 in
        subst (λ c. AlikeFill (Stands s (i ∷ p)) (filled ws c) (through ws source)) (sym b.1)
        (subst (λ g. AlikeFill (Stands s (i ∷ p)) g (through ws source)) (sym f)
        (subst (λ g. AlikeFill (Stands s (i ∷ p)) (Moved (FromLane (VirtualLane s.range k))) g) (sym e)
        (inr (k, refl, live-before s i p k f l', own k source b.3))))

    free : (k : ℕ) → Writing i (VirtualLane s.range k) → ⊥
    free k w = unwritten ws (VirtualLane s.range k) (x.writes k) w.0 w.1 w.2

    pub in-order : in_order i ≡ true → (a : Lane) (source : Source) → LaneStands s p a source → AlikeFill (Stands s (i ∷ p)) (filled ws a) (through ws source)
    in-order o = behind p (λ a k. kept_next (R s) (C s) i p a o k) (λ a l. after_next o l) (λ k source y. own-back s i p k (free k) source o y)

    on-way : (e : Edge) → Among e (exits_of i) → e.phis ≡ [] → (a : Lane) (source : Source) → LaneStands s (found e.block (C s)) a source → AlikeFill (Stands s (i ∷ p)) (filled ws a) (through ws source)
    on-way e m z =
        behind (found e.block (C s)) (λ a k. kept_along (R s) (C s) i p e a a m k (filled-none e.phis a z)) (λ a l. after_leap m l (filled-none e.phis a z))
        (λ k source y. own-from s i p k (free k) source e m y)

    -- sources of all kinds
    pub sources : (z : Code) → ((a : Lane) (source : Source) → LaneStands s z a source → AlikeFill (Stands s (i ∷ p)) (filled ws a) (through ws source)) → Within (Stands s z) (after_both ws ws (Stands s (i ∷ p)))
    sources z h (FromLane a) u k = h a u k
    sources z h Undef u k = undef (through ws u)
      where
        undef : (f : Fill) → AlikeFill (Stands s (i ∷ p)) (Moved Undef) f
        undef (Moved q) = tt
        undef (Computed n) = tt
    sources z h (Bits c low width) u k = subst (λ q. AlikeFill (Stands s (i ∷ p)) (Moved (Bits c low width)) (through ws q)) (sym k) refl

    leads : (e : Edge) → Among e (exits_of i) → e.phis ≡ [] → Within (starts s e.block) (along (record { block = e.block; first = e.phis; second = e.phis }) (after_both ws ws (Stands s (i ∷ p))))
    leads e m z a u k =
        let B : Rel = after_both ws ws (Stands s (i ∷ p)) in
        subst (λ y. B y (settled (through e.phis u))) (sym (through-none e.phis a z))
        (subst (B a) (sym (through-none e.phis u z)) (sources (found e.block (C s)) (on-way e m z) a u k))

    pub leads-all : (es : List Edge) → ((e : Edge) → Among e es → Among e (exits_of i)) → NoPhisAlong es → Exits (starts s) (both_ways es) (after_both ws ws (Stands s (i ∷ p)))
    leads-all [] w z e m = absurd (none_among e m)
    leads-all (e ∷ es) w z d here = leads e (w e here) z.0
    leads-all (e ∷ es) w z d (there m) = leads-all es (λ c n. w c (there n)) z.1 d m

    pub leaps-to : (target : Option Edge) → ((e : Edge) → target ≡ Some e → Among e (exits_of i)) → NoPhisInto target → Reaches (starts s) (both_into target) (after_both ws ws (Stands s (i ∷ p)))
    leaps-to None w z = tt
    leaps-to (Some e) w z = leads e (w e refl) z

    -- what it reads stands where it stood
    alike-sources : (ss : List Source) → ((k : ℕ) → Among (FromLane (VirtualLane s.range k)) ss → ⊥) → ((a : Lane) → Among (FromLane a) ss → KeptIn s (i ∷ p) a) → SourcesOld (length s.func.classes) ss → AlikeReads (Stands s (i ∷ p)) ss ss
    alike-sources [] n k o = tt
    alike-sources (q ∷ ss) n k o = (one q (λ j e. n j (subst (λ y. Among y (q ∷ ss)) e here)) (λ a e. k a (subst (λ y. Among y (q ∷ ss)) e here)) (o q here), alike-sources ss (λ j m. n j (there m)) (λ a m. k a (there m)) (λ y m. o y (there m)))
      where
        one : (q : Source) → ((j : ℕ) → q ≡ FromLane (VirtualLane s.range j) → ⊥) → ((a : Lane) → q ≡ FromLane a → KeptIn s (i ∷ p) a) → old_source (length s.func.classes) q ≡ true → Stands s (i ∷ p) q q
        one (FromLane a) n k o = inl (record { other = other (is_lane_of s.range a) refl; old = o }, k a refl, refl)
          where
            other : (y : Bool) → is_lane_of s.range a ≡ y → is_lane_of s.range a ≡ false
            other false e = e
            other true e = let z = lane-own s.range a e in absurd (n z.0 (ap FromLane z.1))
        one Undef n k o = tt
        one (Bits c low width) n k o = refl

    alike-reads : (reads : Reads) → ((ss : List Source) (k : ℕ) → Among ss reads → Among (FromLane (VirtualLane s.range k)) ss → ⊥) → ((ss : List Source) (a : Lane) → Among ss reads → Among (FromLane a) ss → KeptIn s (i ∷ p) a) → ReadsOld (length s.func.classes) reads → AlikeOperands (Stands s (i ∷ p)) reads reads
    alike-reads [] n k o = tt
    alike-reads (ss ∷ reads) n k o = (alike-sources ss (λ j m. n ss j here m) (λ a m. k ss a here m) o.0, alike-reads reads (λ q j x m. n q j (there x) m) (λ q a x m. k q a (there x) m) o.1)

pub bystanders_stand : BystandersStand
bystanders_stand s (BlockStart n) p x = absurd x.leaves.inside
bystanders_stand s (BlockEnd falls exits) p x = absurd x.leaves.inside
bystanders_stand s (Silent reads ws) p x =
    subst (λ q. PlaceStands s (Silent reads ws ∷ []) (Silent q ws ∷ []) p) (sym x.leaves.inside)
    (silent-place s reads ws p (ws ∷ []) (λ a source k. settled-alike (filled ws a) (through ws source) (in-order s (Silent reads ws) p x.leaves refl a source k)))
  where
    settled-alike : (f g : Fill) → AlikeFill (Stands s (Silent reads ws ∷ p)) f g → Stands s (Silent reads ws ∷ p) (settled f) (settled g)
    settled-alike (Moved q) (Moved u) h = h
    settled-alike (Moved q) (Computed n) h = h
    settled-alike (Computed m) (Computed n) h = tt
    settled-alike (Computed m) (Moved u) h = tt
bystanders_stand s (Counted r reads ws target exits) p x =
    lessened (starts s) B (after_both ws ws B) (Stands s p) (i ∷ []) (i ∷ []) (sources s i p x.leaves p (in-order s i p x.leaves refl))
    (subst (λ y. Stretch (starts s) B (after_both ws ws B) (y ∷ []) (i ∷ [])) first-item
    (subst (λ y. Stretch (starts s) B (after_both ws ws B) (Counted r reads ws (first_target (both_into target)) (first_edges (both_ways exits)) ∷ []) (y ∷ [])) second-item
    (both-counted (starts s) B r reads reads ws ws (both_into target) (both_ways exits)
    (alike-reads s i p x.leaves reads x.reads (λ ss a m n. read_kept (R s) (C s) i p ss a m n) x.old_reads)
    (leaps-to s i p x.leaves target x.leaves.inside.2 x.leaves.inside.0)
    (leads-all s i p x.leaves exits (λ e m. m) x.leaves.inside.1))))
  where
    i : Item
    i = Counted r reads ws target exits

    B : Rel
    B = Stands s (Counted r reads ws target exits ∷ p)

    first-item : Counted r reads ws (first_target (both_into target)) (first_edges (both_ways exits)) ≡ Counted r reads ws target exits
    first-item = λ j. Counted r reads ws (first-into target j) (first-ways exits j)

    second-item : Counted r reads ws (second_target (both_into target)) (second_edges (both_ways exits)) ≡ Counted r reads ws target exits
    second-item = λ j. Counted r reads ws (second-into target j) (second-ways exits j)
