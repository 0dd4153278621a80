-- Places where lanes move between the range's slot and others.
use Rattle.std.proofs.Common.{◌≡◌, ◌∷◌, ◌++◌, ◌⊎◌, inl, inr, ◌∙◌, ◌≤◌, ℕ, Bool, true, false, List, length, map, refl, sym, ap, subst, append-nil, eq-eqb, []}
use Rattle.std.specs.Prelude.{slice_index}
use Rattle.meaning.specs.Code.{Code, Item, Silent}
use Rattle.meaning.specs.Lanes.{Reads, Writes, filled, settled, through}
use Rattle.meaning.specs.Live.{Among, KeptAfter, LiveAfter, Writing, after_next, is_slot, writes_of}
use Rattle.meaning.specs.declared.types.Fill.TheVariants.{Moved}
use Rattle.meaning.specs.declared.types.Lane.{Lane}
use Rattle.meaning.specs.declared.types.Lane.TheVariants.{SlotLane, VirtualLane}
use Rattle.meaning.specs.declared.types.Source.{Source}
use Rattle.meaning.specs.declared.types.Source.TheVariants.{Bits, FromLane, Undef}
use Rattle.laws.proofs.Flow.{flow, kept_next}
use Rattle.meaning.specs.declared.types.Write.{Write}
use Rattle.mir_meaning.specs.Items.{at_all_widths, moved, undefined}
use Rattle.instr_effects.proofs.Members.{either-elim, left-in, map-of, right-in}
use Rattle.mir_meaning.specs.Points.{AtFirst}
use Rattle.mir_meaning.specs.Registers.{numbers, range_widths}
use Rattle.lowering_laws.proofs.Traced.{filled-free, is_lane_of, filled-right, is_one, is_written, lanes_by, moved-apart, silents, traced, traced-bits}
use Rattle.spiller.specs.Setting.{Spilling}
use Rattle.spill_laws.specs.Standing.{IsBeside, IsConstant, IsRepeated, IsSite, IsStored, KeptIn, LaneStands, LiveIn, Occupies, OwnStands, PlaceStands, Stands, code_from, slot_lane}
use Rattle.spill_laws.proofs.Standing.{C, R, brought-here, live-before, own-back, silent-place, unwritten}
use Rattle.spill_laws.proofs.Chains.{Linked, count-lanes, linked, map-long, old-apart, self-source, passed-source, tiny_lanes}
use Rattle.spill_laws.proofs.SlotWrites.{Parallel, early-through, moved-lane, moved-written, parallel, slot-lane-of, slot_by, undefined-lane, undefined-of, undefined-written, written-left, written-right, not-written, one-of, range-given, range-written, source-among, source_at, store_writes, stored-apart, stored-beside, stored-filled, write-of}

module _ (s : Spilling) where
  -- the width of a lane of the range
  abbrev pub width : ℕ → ℕ
  width k = slice_index (range_widths s.target s.func s.range) k

  pub traced-constant : (wss : List Writes) (source : Source) → IsConstant source → traced wss source ≡ source
  traced-constant wss (Bits c low w) h = traced-bits wss c low w
  traced-constant wss Undef h = absurd h
  traced-constant wss (FromLane a) h = absurd h

  constant-stands : (p : Code) (source : Source) → IsConstant source → Stands s p source source
  constant-stands p (Bits c low w) h = refl
  constant-stands p Undef h = absurd h
  constant-stands p (FromLane a) h = absurd h

  module _ (d : ℕ) (x : Item) (p : Code) (site : IsSite s d x p) where
    free : (k : ℕ) → is_written (writes_of x) (VirtualLane s.range k) ≡ false → Writing x (VirtualLane s.range k) → ⊥
    free k e w = unwritten (writes_of x) (VirtualLane s.range k) e w.0 w.1 w.2

    -- a lane of the range that stays
    pub own-unwritten : (k : ℕ) (source : Source) → is_written (writes_of x) (VirtualLane s.range k) ≡ false → LiveIn s p (VirtualLane s.range k) → OwnStands s p k source → Stands s (x ∷ p) (settled (filled (writes_of x) (VirtualLane s.range k))) source
    own-unwritten k source e l o =
        let f : filled (writes_of x) (VirtualLane s.range k) ≡ Moved (FromLane (VirtualLane s.range k)) = filled-free (writes_of x) (VirtualLane s.range k) e in
        subst (λ g. Stands s (x ∷ p) (settled g) source) (sym f)
        (inr (k, refl, live-before s x p k f (after_next site.order l), own-back s x p k (free k e) source site.order o))

    -- and one that is found as a constant
    pub own-repeated : (k : ℕ) (source : Source) → LiveIn s p (VirtualLane s.range k) → IsRepeated s k p source → Stands s (x ∷ p) (settled (filled (writes_of x) (VirtualLane s.range k))) source
    own-repeated k source l o = go (is_written (writes_of x) (VirtualLane s.range k)) refl
      where
        go : (b : Bool) → is_written (writes_of x) (VirtualLane s.range k) ≡ b → Stands s (x ∷ p) (settled (filled (writes_of x) (VirtualLane s.range k))) source
        go false e = own-unwritten k source e l (inr o)
        go true e =
            let y : d ≡ o.by = o.only d (brought-here s d x p k site.from (write-of (writes_of x) (VirtualLane s.range k) e) site.order) in
            let z : filled (writes_of x) (VirtualLane s.range k) ≡ Moved source =
            subst (AtFirst (λ i q. filled (writes_of i) (VirtualLane s.range k) ≡ Moved source)) site.from (subst (λ n. AtFirst (λ i q. filled (writes_of i) (VirtualLane s.range k) ≡ Moved source) (code_from s n)) (sym y) o.gives) in
            subst (λ g. Stands s (x ∷ p) (settled g) source) (sym z) (constant-stands (x ∷ p) source o.constant)

    -- a slot's lane that is kept behind the instruction isn't the range's slot's, where a lane of the range is written
    pub slot-apart : (k j w : ℕ) → Occupies s x p (VirtualLane s.range k) → (a : Lane) → a ≡ SlotLane s.slot j w → KeptIn s p a → ⊥
    slot-apart k j w h a e (inl l) = site.apart k j w h (inl (subst (LiveAfter (R s) (C s) x p) e (after_next site.order l)))
    slot-apart k j w h a e (inr r) = absurd (let z : R s a ≡ false = ap (R s) e in cc)

  -- a silent instruction of the function, and silent ones in its place
  pub silent-site : (d : ℕ) (reads : Reads) (ws : Writes) (p : Code) (wss : List Writes) → IsSite s d (Silent reads ws) p
      → ((a : Lane) → IsBeside s a → KeptIn s p a → Stands s (Silent reads ws ∷ p) (settled (filled ws a)) (traced wss (FromLane a)))
      → ((k : ℕ) → LiveIn s p (VirtualLane s.range k) → IsStored s k p → Stands s (Silent reads ws ∷ p) (settled (filled ws (VirtualLane s.range k))) (traced wss (FromLane (slot_lane s k))))
      → PlaceStands s (Silent reads ws ∷ []) (silents wss) p
  silent-site d reads ws p wss site beside own = silent-place s reads ws p wss each
    where
      each : (a : Lane) (source : Source) → LaneStands s p a source → Stands s (Silent reads ws ∷ p) (settled (filled ws a)) (traced wss source)
      each a source (inl b) = subst (λ q. Stands s (Silent reads ws ∷ p) (settled (filled ws a)) (traced wss q)) (sym b.2) (beside a b.0 b.1)
      each a source (inr b) = subst (λ c. Stands s (Silent reads ws ∷ p) (settled (filled ws c)) (traced wss source)) (sym b.1) (by (subst (LiveIn s p) b.1 b.2) b.3)
        where
          by : LiveIn s p (VirtualLane s.range b.0) → OwnStands s p b.0 source → Stands s (Silent reads ws ∷ p) (settled (filled ws (VirtualLane s.range b.0))) (traced wss source)
          by l (inl o) = subst (λ q. Stands s (Silent reads ws ∷ p) (settled (filled ws (VirtualLane s.range b.0))) (traced wss q)) (sym o.1) (own b.0 l o.0)
          by l (inr o) = subst (Stands s (Silent reads ws ∷ p) (settled (filled ws (VirtualLane s.range b.0)))) (sym (traced-constant wss source o.constant)) (own-repeated d (Silent reads ws) p site b.0 source l o)

  -- A definition that moves sources to lanes of the range.
  module _ (d : ℕ) (early : Bool) (ks : List ℕ) (ss : List Source) (p : Code) (long : length ks ≤ length ss) (site : IsSite s d (Silent [] (moved early (lanes_by s.range ks) ss)) p) where
    abbrev given : Writes
    given = moved early (lanes_by s.range ks) ss

    abbrev x : Item
    x = Silent [] given

    written-by : (k : ℕ) → Among k ks → Writing x (VirtualLane s.range k)
    written-by k m = write-of given (VirtualLane s.range k) (range-written s.range early ks ss k long (one-of ks k m))

    -- a source that stands where it stood
    pub source-stays : (k : ℕ) → is_one ks k ≡ true → LiveIn s p (VirtualLane s.range k) → ((a : Lane) → Among (FromLane a) ss → IsBeside s a) → Stands s (x ∷ p) (source_at ks ss k) (source_at ks ss k)
    source-stays k e l others = go (source_at ks ss k) (source-among ks ss k long e) (range-given s.range early ks ss k long e)
      where
        go : (q : Source) → Among q ss → filled given (VirtualLane s.range k) ≡ Moved q → Stands s (x ∷ p) q q
        go (FromLane c) m g = inl (others c m, flow (R s) (C s) x p (VirtualLane s.range k) c (kept_next (R s) (C s) x p (VirtualLane s.range k) refl (inl l)) g, refl)
        go Undef m g = tt
        go (Bits c low w) m g = refl

    -- silent instructions in its place give these lanes of the slot what it gave, and leave all else
    pub record GivesSlot (wss : List Writes) : Type 0 where
      pub others : (a : Lane) → IsBeside s a → ((j w : ℕ) → Among j ks → a ≡ SlotLane s.slot j w → ⊥) → traced wss (FromLane a) ≡ FromLane a
      pub free : (k : ℕ) → is_one ks k ≡ false → traced wss (FromLane (slot_lane s k)) ≡ FromLane (slot_lane s k)
      pub given : (k : ℕ) → is_one ks k ≡ true → LiveIn s p (VirtualLane s.range k) → IsStored s k p → Stands s (x ∷ p) (source_at ks ss k) (traced wss (FromLane (slot_lane s k)))

    pub definition-place : (wss : List Writes) → GivesSlot wss → PlaceStands s (x ∷ []) (silents wss) p
    definition-place wss h = silent-site d [] given p wss site beside own
      where
        beside : (a : Lane) → IsBeside s a → KeptIn s p a → Stands s (x ∷ p) (settled (filled given a)) (traced wss (FromLane a))
        beside a b k =
            let f : filled given a ≡ Moved (FromLane a) = filled-free given a (not-written given a (λ y m e. apart-lane y m e)) in
            let g : traced wss (FromLane a) ≡ FromLane a = h.others a b (λ j w m e. slot-apart d x p site j j w (inr (written-by j m)) a e k) in
            subst (λ y. Stands s (x ∷ p) (settled y) (traced wss (FromLane a))) (sym f)
            (subst (Stands s (x ∷ p) (FromLane a)) (sym g) (inl (b, flow (R s) (C s) x p a a (kept_next (R s) (C s) x p a refl k) f, refl)))
          where
            apart-lane : (y : Write) → Among y given → y.lane ≡ a → ⊥
            apart-lane y m e =
                let z = map-of (VirtualLane s.range) y.lane ks (moved-lane early (lanes_by s.range ks) ss y m) in
                let q : is_lane_of s.range a ≡ true = ap (is_lane_of s.range) (sym e ∙ z.2) ∙ eq-eqb s.range s.range refl in
                let r = b.other in cc

        own : (k : ℕ) → LiveIn s p (VirtualLane s.range k) → IsStored s k p → Stands s (x ∷ p) (settled (filled given (VirtualLane s.range k))) (traced wss (FromLane (slot_lane s k)))
        own k l o = go (is_one ks k) refl
          where
            go : (b : Bool) → is_one ks k ≡ b → Stands s (x ∷ p) (settled (filled given (VirtualLane s.range k))) (traced wss (FromLane (slot_lane s k)))
            go true e = subst (λ y. Stands s (x ∷ p) (settled y) (traced wss (FromLane (slot_lane s k)))) (sym (range-given s.range early ks ss k long e)) (h.given k e l o)
            go false e =
                subst (Stands s (x ∷ p) (settled (filled given (VirtualLane s.range k)))) (sym (h.free k e))
                (own-unwritten d x p site k (FromLane (slot_lane s k)) (not-written given (VirtualLane s.range k) (λ y m g. apart-own y m g)) l (inl (o, refl)))
              where
                number : (a c : ℕ) → VirtualLane s.range a ≡ VirtualLane s.range c → a ≡ c
                number a c e = cc

                apart-own : (y : Write) → Among y given → y.lane ≡ VirtualLane s.range k → ⊥
                apart-own y m g =
                    let z = map-of (VirtualLane s.range) y.lane ks (moved-lane early (lanes_by s.range ks) ss y m) in
                    let q : is_one ks k ≡ true = subst (λ c. is_one ks c ≡ true) (number z.0 k (sym z.2 ∙ g)) (one-of ks z.0 z.1) in
                    cc

    -- a store in its place, where it moves what others hold
    pub stores-place : ((a : Lane) → Among (FromLane a) ss → IsBeside s a) → PlaceStands s (x ∷ []) (Silent [] (store_writes s.slot width s.target ks ss) ∷ []) p
    stores-place others = definition-place (vs ∷ []) (record {
      others = λ a b n. ap settled (filled-free vs a (stored-apart s.slot width s.target ks ss a n));
      free = λ k e. ap settled (filled-free vs (slot_lane s k) (stored-beside s.slot width s.target ks ss k (width k) e));
      given = λ k e l o. subst (λ y. Stands s (x ∷ p) (source_at ks ss k) (settled y)) (sym (stored-filled s.slot width s.target ks ss k long e)) (source-stays k e l others);
    })
      where
        vs : Writes
        vs = store_writes s.slot width s.target ks ss

    -- A reload into a tiny and a store of it in its place.
    module _ (c : ℕ) (further : length s.func.classes ≤ c) (us : List Source) (full : length ks ≤ length us) (soon : Bool) where
      abbrev loads : Writes
      loads = moved soon (tiny_lanes c 0 (length ks)) us

      abbrev saves : Writes
      saves = store_writes s.slot width s.target ks (map FromLane (tiny_lanes c 0 (length ks)))

      past-loads : (a : Lane) → is_lane_of c a ≡ false → settled (through loads (FromLane a)) ≡ FromLane a
      past-loads a e = ap settled (early-through soon (tiny_lanes c 0 (length ks)) us (FromLane a) ∙ filled-free (moved false (tiny_lanes c 0 (length ks)) us) a (moved-apart c (numbers 0 (length ks)) us a e))

      pub pass-place : ((k : ℕ) → is_one ks k ≡ true → LiveIn s p (VirtualLane s.range k) → IsStored s k p → Stands s (x ∷ p) (source_at ks ss k) (source_at ks us k)) → PlaceStands s (x ∷ []) (silents (loads ∷ saves ∷ [])) p
      pass-place held = definition-place (loads ∷ saves ∷ []) (record {
        others = λ a b n. ap (λ f. settled (through loads (settled f))) (filled-free saves a (stored-apart s.slot width s.target ks (map FromLane (tiny_lanes c 0 (length ks))) a n)) ∙ past-loads a (old-apart (length s.func.classes) c a further b.old);
        free = λ k e. ap (λ f. settled (through loads (settled f))) (filled-free saves (slot_lane s k) (stored-beside s.slot width s.target ks (map FromLane (tiny_lanes c 0 (length ks))) k (width k) e)) ∙ past-loads (slot_lane s k) refl;
        given = λ k e l o.
            let f : filled saves (slot_lane s k) ≡ Moved (source_at ks (map FromLane (tiny_lanes c 0 (length ks))) k) = stored-filled s.slot width s.target ks (map FromLane (tiny_lanes c 0 (length ks))) k (count-lanes c 0 ks) e in
            subst (Stands s (x ∷ p) (source_at ks ss k)) (sym (ap (λ g. settled (through loads (settled g))) f ∙ (ap settled (early-through soon (tiny_lanes c 0 (length ks)) us (source_at ks (map FromLane (tiny_lanes c 0 (length ks))) k)) ∙ passed-source c 0 ks us k full e))) (held k e l o);
      })

    -- nothing in its place, where no lane of the range that it writes is live behind and stored
    pub unstored-place : ((k : ℕ) → is_one ks k ≡ true → LiveIn s p (VirtualLane s.range k) → IsStored s k p → ⊥) → PlaceStands s (x ∷ []) [] p
    unstored-place empty = definition-place [] (record { others = λ a b n. refl; free = λ k e. refl; given = λ k e l o. absurd (empty k e l o) })

    -- nothing in its place, where the slot's lanes hold what it gives
    pub held-place : ((k : ℕ) → is_one ks k ≡ true → LiveIn s p (VirtualLane s.range k) → IsStored s k p → Stands s (x ∷ p) (source_at ks ss k) (FromLane (slot_lane s k))) → PlaceStands s (x ∷ []) [] p
    held-place held = definition-place [] (record { others = λ a b n. refl; free = λ k e. refl; given = held })

  -- An instruction that moves lanes of the range elsewhere.
  module _ (d : ℕ) (ws : Writes) (p : Code) (site : IsSite s d (Silent [] ws) p) (unwritten-own : (k : ℕ) → is_written ws (VirtualLane s.range k) ≡ false) where
    abbrev y : Item
    y = Silent [] ws

    -- what a lane gets: nothing, or a lane of the range that is found in what it gets after the spill
    pub data Gets (wss : List Writes) (a : Lane) : Type 0 where
      nothing : filled ws a ≡ Moved (FromLane a) → traced wss (FromLane a) ≡ FromLane a → Gets wss a
      lost : filled ws a ≡ Moved Undef → Gets wss a
      own : (j : ℕ) → filled ws a ≡ Moved (FromLane (VirtualLane s.range j)) → (KeptAfter (R s) (C s) y p a → OwnStands s (y ∷ p) j (traced wss (FromLane a))) → Gets wss a

    pub use-place : (wss : List Writes) → ((a : Lane) → IsBeside s a → KeptIn s p a → Gets wss a) → ((k : ℕ) → LiveIn s p (VirtualLane s.range k) → traced wss (FromLane (slot_lane s k)) ≡ FromLane (slot_lane s k)) → PlaceStands s (y ∷ []) (silents wss) p
    use-place wss gets free = silent-site d [] ws p wss site (λ a b k. by a b k (gets a b k)) (λ k l o. subst (Stands s (y ∷ p) (settled (filled ws (VirtualLane s.range k)))) (sym (free k l)) (own-unwritten d y p site k (FromLane (slot_lane s k)) (unwritten-own k) l (inl (o, refl))))
      where
        live : (j : ℕ) → KeptIn s (y ∷ p) (VirtualLane s.range j) → LiveIn s (y ∷ p) (VirtualLane s.range j)
        live j (inl l) = l
        live j (inr r) = absurd (cc)

        by : (a : Lane) → IsBeside s a → KeptIn s p a → Gets wss a → Stands s (y ∷ p) (settled (filled ws a)) (traced wss (FromLane a))
        by a b k (nothing f g) =
            subst (λ z. Stands s (y ∷ p) (settled z) (traced wss (FromLane a))) (sym f)
            (subst (Stands s (y ∷ p) (FromLane a)) (sym g) (inl (b, flow (R s) (C s) y p a a (kept_next (R s) (C s) y p a refl k) f, refl)))
        by a b k (lost f) = subst (λ z. Stands s (y ∷ p) (settled z) (traced wss (FromLane a))) (sym f) tt
        by a b k (own j f o) =
            let k' = kept_next (R s) (C s) y p a refl k in
            subst (λ z. Stands s (y ∷ p) (settled z) (traced wss (FromLane a))) (sym f)
            (inr (j, refl, live j (flow (R s) (C s) y p a (VirtualLane s.range j) k' f), o k'))

  -- a lane of the range in its slot, as a source
  abbrev pub home : ℕ → Source
  home j = FromLane (slot_lane s j)

  -- a lane of the range, as a source
  abbrev pub range_source : ℕ → Source
  range_source j = FromLane (VirtualLane s.range j)

  -- A copy from lanes of the range to others; G is where these are found.
  module _ (d : ℕ) (early : Bool) (ls : List Lane) (ks : List ℕ) (p : Code) (site : IsSite s d (Silent [] (moved false ls (map range_source ks))) p) (other : (a : Lane) → Among a ls → is_lane_of s.range a ≡ false) (unslotted : (a : Lane) → Among a ls → is_slot a ≡ false) where
    abbrev copies : Writes
    copies = moved false ls (map range_source ks)

    range-apart : (ss : List Source) (e : Bool) (k : ℕ) → is_written (moved e ls ss) (VirtualLane s.range k) ≡ false
    range-apart ss e k = not-written (moved e ls ss) (VirtualLane s.range k) (λ w m g.
        let a = other w.lane (moved-lane e ls ss w m) in
        let b : is_lane_of s.range w.lane ≡ true = ap (is_lane_of s.range) g ∙ eq-eqb s.range s.range refl in
        cc)

    slot-apart-from : (ss : List Source) (e : Bool) (j w : ℕ) → is_written (moved e ls ss) (SlotLane s.slot j w) ≡ false
    slot-apart-from ss e j w = not-written (moved e ls ss) (SlotLane s.slot j w) (λ y m g.
        let a = unslotted y.lane (moved-lane e ls ss y m) in
        let b : is_slot y.lane ≡ true = ap is_slot g in
        cc)

    pub copy-place : (G : ℕ → Source) → ((j : ℕ) (a : Lane) → IsBeside s a → Among j ks → filled copies a ≡ Moved (range_source j) → KeptAfter (R s) (C s) (Silent [] copies) p a → OwnStands s (Silent [] copies ∷ p) j (G j))
        → PlaceStands s (Silent [] copies ∷ []) (Silent [] (moved early ls (map G ks)) ∷ []) p
    copy-place G held = use-place d copies p site (range-apart (map range_source ks) false) (moved early ls (map G ks) ∷ []) (λ a b k. by a b (parallel range_source G false early ls ks a)) (λ k l. ap settled (filled-free (moved early ls (map G ks)) (slot_lane s k) (slot-apart-from (map G ks) early k (width k))))
      where
        by : (a : Lane) → IsBeside s a → Parallel range_source G ks (moved false ls (map range_source ks)) (moved early ls (map G ks)) a → Gets d (moved false ls (map range_source ks)) p site (range-apart (map range_source ks) false) (moved early ls (map G ks) ∷ []) a
        by a b (Parallel.none f g) = nothing (filled-free (moved false ls (map range_source ks)) a f) (ap settled (filled-free (moved early ls (map G ks)) a g))
        by a b (Parallel.both j m f g) =
            let e : filled copies a ≡ Moved (range_source j) = ap (λ ws. filled ws a) (sym (append-nil copies)) ∙ f [] in
            let h : filled (moved early ls (map G ks)) a ≡ Moved (G j) = ap (λ ws. filled ws a) (sym (append-nil (moved early ls (map G ks)))) ∙ g [] in
            own j e (λ k. subst (OwnStands s (Silent [] copies ∷ p) j) (sym (ap settled h)) (held j a b m e k))

  -- A store of lanes of the range to lanes of another slot, or others of its own.
  module _ (d : ℕ) (ls rest : List Lane) (ks : List ℕ) (p : Code) (site : IsSite s d (Silent [] (moved false ls (map range_source ks) ++ undefined false rest)) p) (slots : (a : Lane) → Among a (ls ++ rest) → is_slot a ≡ true) where
    abbrev saved : Writes
    saved = moved false ls (map range_source ks) ++ undefined false rest

    -- what is written is among these lanes
    written-lane : (ss : List Source) (w : Write) → Among w (moved false ls ss ++ undefined false rest) → Among w.lane (ls ++ rest)
    written-lane ss w m = either-elim w (moved false ls ss) (undefined false rest) (λ k. left-in w.lane ls rest (moved-lane false ls ss w k)) (λ k. right-in w.lane ls rest (undefined-lane false rest w k).0) m

    unsaved : (ss : List Source) (a : Lane) → is_slot a ≡ false → is_written (moved false ls ss ++ undefined false rest) a ≡ false
    unsaved ss a e = not-written (moved false ls ss ++ undefined false rest) a (λ w m g. let b = slots w.lane (written-lane ss w m) in let h : is_slot w.lane ≡ is_slot a = ap is_slot g in cc)

    written-in : length ls ≤ length (map range_source ks) → (a : Lane) → Among a (ls ++ rest) → is_written saved a ≡ true
    written-in long a m = either-elim a ls rest (λ k. written-left (moved false ls (map range_source ks)) (undefined false rest) a (moved-written false ls (map range_source ks) a long k)) (λ k. written-right (moved false ls (map range_source ks)) (undefined false rest) a (undefined-written false rest a k)) m

    -- where the range's lane is live behind, its slot's isn't written
    slot-unsaved : length ls ≤ length (map range_source ks) → (ss : List Source) (k : ℕ) → LiveIn s p (VirtualLane s.range k) → is_written (moved false ls ss ++ undefined false rest) (slot_lane s k) ≡ false
    slot-unsaved long ss k l = not-written (moved false ls ss ++ undefined false rest) (slot_lane s k) (λ w m g.
        site.apart k k (width k) (inl (after_next refl l)) (inr (write-of saved (slot_lane s k) (written-in long (slot_lane s k) (subst (λ a. Among a (ls ++ rest)) g (written-lane ss w m))))))

    own-unsaved : (k : ℕ) → is_written saved (VirtualLane s.range k) ≡ false
    own-unsaved k = unsaved (map range_source ks) (VirtualLane s.range k) refl

    module _ (c : ℕ) (further : length s.func.classes ≤ c) (soon : Bool) (long : length ls ≤ length (map range_source ks)) (held : (j : ℕ) (a : Lane) → IsBeside s a → Among j ks → filled saved a ≡ Moved (range_source j) → KeptAfter (R s) (C s) (Silent [] saved) p a → IsStored s j (Silent [] saved ∷ p)) where
      abbrev out : Writes
      out = moved soon (tiny_lanes c 0 (length ks)) (map home ks)

      abbrev on : Writes
      on = moved false ls (map FromLane (tiny_lanes c 0 (length ks))) ++ undefined false rest

      past-out : (a : Lane) → is_lane_of c a ≡ false → settled (through out (FromLane a)) ≡ FromLane a
      past-out a e = ap settled (early-through soon (tiny_lanes c 0 (length ks)) (map home ks) (FromLane a) ∙ filled-free (moved false (tiny_lanes c 0 (length ks)) (map home ks)) a (moved-apart c (numbers 0 (length ks)) (map home ks) a e))

      gets-on : (a : Lane) → IsBeside s a → Linked range_source home c 0 ks (moved false ls (map range_source ks)) (moved false ls (map FromLane (tiny_lanes c 0 (length ks)))) (moved false (tiny_lanes c 0 (length ks)) (map home ks)) a → Gets d saved p site own-unsaved (out ∷ on ∷ []) a
      gets-on a b (Linked.none f g) = by (undefined-of rest a)
        where
          first : filled saved a ≡ filled (undefined false rest) a
          first = filled-right (moved false ls (map range_source ks)) (undefined false rest) a f

          second : filled on a ≡ filled (undefined false rest) a
          second = filled-right (moved false ls (map FromLane (tiny_lanes c 0 (length ks)))) (undefined false rest) a g

          by : (filled (undefined false rest) a ≡ Moved (FromLane a)) ⊎ (filled (undefined false rest) a ≡ Moved Undef) → Gets d saved p site own-unsaved (out ∷ on ∷ []) a
          by (inl z) = nothing (first ∙ z) (ap (λ f. settled (through out (settled f))) (second ∙ z) ∙ past-out a (old-apart (length s.func.classes) c a further b.old))
          by (inr z) = lost (first ∙ z)
      gets-on a b (Linked.both j z m h f g v) =
          own j (f (undefined false rest)) (λ k. subst (OwnStands s (Silent [] saved ∷ p) j) (sym (ap (λ q. settled (through out (settled q))) (g (undefined false rest)) ∙ (ap settled (early-through soon (tiny_lanes c 0 (length ks)) (map home ks) (FromLane (VirtualLane c z))) ∙ ap settled v))) (inl (held j a b m (f (undefined false rest)) k, refl)))

      pub save-place : PlaceStands s (Silent [] saved ∷ []) (silents (out ∷ on ∷ [])) p
      save-place = use-place d saved p site own-unsaved (out ∷ on ∷ []) (λ a b k. gets-on a b (linked range_source home c false false 0 ls ks a))
          (λ k l. ap (λ f. settled (through out (settled f))) (filled-free on (slot_lane s k) (slot-unsaved long (map FromLane (tiny_lanes c 0 (length ks))) k l)) ∙ past-out (slot_lane s k) refl)

  -- A store of lanes of the range to its own slot: nothing in its place.
  module _ (d : ℕ) (ks : List ℕ) (p : Code) (site : IsSite s d (Silent [] (store_writes s.slot width s.target ks (map range_source ks))) p) where
    abbrev kept_writes : Writes
    kept_writes = store_writes s.slot width s.target ks (map range_source ks)

    abbrev firsts : Writes
    firsts = moved false (slot_by s.slot width ks) (map range_source ks)

    abbrev lasts : List Lane
    lasts = at_all_widths s.target s.slot ks

    own-unkept : (k : ℕ) → is_written kept_writes (VirtualLane s.range k) ≡ false
    own-unkept k = stored-apart s.slot width s.target ks (map range_source ks) (VirtualLane s.range k) (λ j y m e. cc)

    pub keep-place : ((j : ℕ) (a : Lane) → IsBeside s a → Among j ks → filled kept_writes a ≡ Moved (range_source j) → KeptAfter (R s) (C s) (Silent [] kept_writes) p a → IsStored s j (Silent [] kept_writes ∷ p)) → PlaceStands s (Silent [] kept_writes ∷ []) [] p
    keep-place held = use-place d kept_writes p site own-unkept [] (λ a b k. by a b (is_written firsts a) refl) (λ k l. refl)
      where
        by : (a : Lane) → IsBeside s a → (y : Bool) → is_written (moved false (slot_by s.slot width ks) (map range_source ks)) a ≡ y → Gets d kept_writes p site own-unkept [] a
        by a b false e = rest-of (undefined-of lasts a)
          where
            first : filled kept_writes a ≡ filled (undefined false lasts) a
            first = filled-right firsts (undefined false lasts) a e

            rest-of : (filled (undefined false lasts) a ≡ Moved (FromLane a)) ⊎ (filled (undefined false lasts) a ≡ Moved Undef) → Gets d kept_writes p site own-unkept [] a
            rest-of (inl z) = nothing (first ∙ z) refl
            rest-of (inr z) = lost (first ∙ z)
        by a b true e =
            let w = write-of firsts a e in
            let z = slot-lane-of s.slot width ks a (subst (λ l. Among l (slot_by s.slot width ks)) w.2 (moved-lane false (slot_by s.slot width ks) (map range_source ks) w.0 w.1)) in
            let f : filled kept_writes (slot_lane s z.0) ≡ Moved (range_source z.0) = stored-filled s.slot width s.target ks (map range_source ks) z.0 (map-long range_source ks) (one-of ks z.0 z.1) ∙ ap Moved (self-source range_source ks z.0 (one-of ks z.0 z.1)) in
            let g : filled kept_writes a ≡ Moved (range_source z.0) = ap (filled kept_writes) z.2 ∙ f in
            own z.0 g (λ k. inl (held z.0 a b z.1 g k, ap FromLane z.2))
