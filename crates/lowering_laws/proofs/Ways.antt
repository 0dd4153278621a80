-- On the way into a block the phis of the first function do what the copies at the start of the block do in the second.
use Rattle.std.proofs.Common.{◌≡◌, ◌⊎◌, inl, inr, ◌∷◌, ◌++◌, ◌∙◌, ◌&&◌, ◌||◌, ◌+◌, ℕ, Bool, true, false, cond, List, map, refl, sym, ap, subst, append_assoc, append-nil, eqb-true, eq-eqb, []}
use Rattle.std.specs.Prelude.{nat_eq, nat_lt}
use Rattle.target_base.specs.declared.types.Target.{Target}
use Rattle.target_base.specs.Rules.{is_phi}
use Rattle.meaning.specs.Lanes.{Writes, filled, settled, through}
use Rattle.meaning.specs.Relations.{Rel}
use Rattle.meaning.specs.declared.types.Fill.{Fill}
use Rattle.meaning.specs.declared.types.Fill.TheVariants.{Moved}
use Rattle.meaning.specs.declared.types.Lane.{Lane}
use Rattle.meaning.specs.declared.types.Lane.TheVariants.{SlotLane, UnitLane, VirtualLane}
use Rattle.meaning.specs.declared.types.Source.{Source}
use Rattle.meaning.specs.declared.types.Source.TheVariants.{Bits, FromLane, Undef}
use Rattle.mir_func.specs.declared.func.Instr.{Instr}
use Rattle.mir_func.specs.Value.{Function}
use Rattle.mir_func.specs.Binding.{does}
use Rattle.mir_meaning.specs.Codes.{phi_operands, phi_writes, phis_written}
use Rattle.mir_meaning.specs.Items.{copied, moved, undefined}
use Rattle.phi_elim.specs.Phis.{from_incoming, phi_number}
use Rattle.lowering_laws.proofs.Olds.{is_old, old_source}
use Rattle.lowering_laws.proofs.Traced.{Given, filled-free, filled-right, is_lane_of, is_one, is_written, lanes_by, moved-apart, moved-beside, settled-none, traced, traced-bits, traced-undef, undefined-apart, undefined-beside, written-append}

-- lane k of register v is given lane k of register c
copied-own : (v c : ℕ) (ns : List ℕ) (us : Writes) (k : ℕ) → is_one ns k ≡ true → filled (moved false (lanes_by v ns) (map FromLane (lanes_by c ns)) ++ us) (VirtualLane v k) ≡ Moved (FromLane (VirtualLane c k))
copied-own v c [] us k e = absurd (cc)
copied-own v c (n ∷ ns) us k e =
    ap (λ x. cond x (Moved (FromLane (VirtualLane c n))) rest) (ap (λ b. b && nat_eq n k) (eq-eqb v v refl)) ∙ go (nat_eq n k) refl e (copied-own v c ns us k)
  where
    rest : Fill
    rest = filled (moved false (lanes_by v ns) (map FromLane (lanes_by c ns)) ++ us) (VirtualLane v k)

    go : (b : Bool) → nat_eq n k ≡ b → (b || is_one ns k) ≡ true → (is_one ns k ≡ true → rest ≡ Moved (FromLane (VirtualLane c k))) → cond b (Moved (FromLane (VirtualLane c n))) rest ≡ Moved (FromLane (VirtualLane c k))
    go true q e ih = ap (λ j. Moved (FromLane (VirtualLane c j))) (eqb-true n k q)
    go false q e ih = ih e

module _ (t : Target) (h : Function) (bound : ℕ) where
  -- the copy that takes the place of an instruction, where it is a phi
  abbrev pub copy_writes : ℕ → Instr → List Writes
  copy_writes c i = cond (does is_phi t i) (copied t h (from_incoming c i.operands) ∷ []) []

  -- the copies that take the places of the phis among these instructions, whose incoming registers are numbered from c on
  abbrev pub phi_copies : ℕ → List Instr → List Writes
  phi_copies c [] = []
  phi_copies c (i ∷ is) = copy_writes c i ++ phi_copies (c + phi_number t i) is

  -- A phi with incoming register c, on the way from block n: its result is register v, whose lanes have these numbers;
  -- they are given these sources, which are related to the lanes of the incoming register.
  pub record PhiOn (S : Rel) (n c : ℕ) (i : Instr) : Type 0 where
    pub v : ℕ
    pub ns : List ℕ
    pub all : Bool
    pub ss : List Source
    pub old : nat_lt v bound ≡ true
    pub new : nat_lt c bound ≡ false
    pub written : phi_writes t h n i ≡ moved false (lanes_by v ns) ss ++ undefined false (cond all (lanes_by v ns) [])
    pub copy : copied t h (from_incoming c i.operands) ≡ moved false (lanes_by v ns) (map FromLane (lanes_by c ns)) ++ undefined false (cond all (lanes_by v ns) [])
    pub given : (k : ℕ) → is_one ns k ≡ true → Given v c ns ss k
    pub arrived : (k : ℕ) (m : is_one ns k ≡ true) → S (given k m).source (FromLane (VirtualLane c k))

  -- the phis among these instructions
  pub data PhisOn (S : Rel) (n : ℕ) : ℕ → List Instr → Type 0 where
    done : {c : ℕ} → PhisOn S n c []
    plain : {c : ℕ} {i : Instr} {is : List Instr} → does is_phi t i ≡ false → PhisOn S n (c + phi_number t i) is → PhisOn S n c (i ∷ is)
    phi : {c : ℕ} {i : Instr} {is : List Instr} → does is_phi t i ≡ true → PhiOn S n c i → PhisOn S n (c + phi_number t i) is → PhisOn S n c (i ∷ is)

  -- these writes leave a source alone, whatever stands behind them
  abbrev Passes : Writes → Source → Type 0
  Passes ws s = (us : Writes) → through (ws ++ us) s ≡ through us s

  -- what a source is given stands in these writes, whatever stands behind them
  abbrev Settles : Writes → Source → Type 0
  Settles ws s = (us : Writes) → through (ws ++ us) s ≡ through ws s

  -- A source that the phis leave alone was itself before the copies, and one that they write was no old one: those of
  -- incoming registers aren't.
  abbrev IsOr : Writes → Source → Source → Type 0
  IsOr ws s u = (Passes ws s × (u ≡ s)) ⊎ (Settles ws s × (old_source bound u ≡ false))

  beyond : (v : ℕ) (l : Lane) → nat_lt v bound ≡ true → is_old bound l ≡ false → is_lane_of v l ≡ false
  beyond v (UnitLane u) a b = absurd (cc)
  beyond v (SlotLane s k w) a b = absurd (cc)
  beyond v (VirtualLane w k) a b = go (nat_eq v w) refl
    where
      go : (x : Bool) → nat_eq v w ≡ x → nat_eq v w ≡ false
      go false e = e
      go true e = absurd (let same = eqb-true v w e in let c : nat_lt v bound ≡ false = ap (λ z. nat_lt z bound) same ∙ b in cc)

  -- writes of lanes of register v leave others
  module _ (v : ℕ) (ns : List ℕ) (all : Bool) where
    abbrev pub W : List Source → Writes
    W ss = moved false (lanes_by v ns) ss ++ undefined false (cond all (lanes_by v ns) [])

    pub others : (ss : List Source) (l : Lane) → is_lane_of v l ≡ false → is_written (W ss) l ≡ false
    others ss l e = written-append (moved false (lanes_by v ns) ss) (undefined false (cond all (lanes_by v ns) [])) l (moved-apart v ns ss l e) (go all)
      where
        go : (b : Bool) → is_written (undefined false (cond b (lanes_by v ns) [])) l ≡ false
        go true = undefined-apart v ns l e
        go false = refl

    beside : (ss : List Source) (k : ℕ) → is_one ns k ≡ false → is_written (W ss) (VirtualLane v k) ≡ false
    beside ss k e = written-append (moved false (lanes_by v ns) ss) (undefined false (cond all (lanes_by v ns) [])) (VirtualLane v k) (moved-beside v ns ss k e) (go all)
      where
        go : (b : Bool) → is_written (undefined false (cond b (lanes_by v ns) [])) (VirtualLane v k) ≡ false
        go true = undefined-beside v ns k e
        go false = refl

    -- a lane that isn't written
    abbrev Free : Lane → Type 0
    Free l = (ss : List Source) → is_written (W ss) l ≡ false

    free-or : (l : Lane) → Free l ⊎ ((k : ℕ) × (l ≡ VirtualLane v k) × (is_one ns k ≡ true))
    free-or (UnitLane u) = inl (λ ss. others ss (UnitLane u) refl)
    free-or (SlotLane s k w) = inl (λ ss. others ss (SlotLane s k w) refl)
    free-or (VirtualLane w k) = go (nat_eq v w) refl
      where
        at : (b : Bool) → v ≡ w → is_one ns k ≡ b → Free (VirtualLane w k) ⊎ ((j : ℕ) × (VirtualLane w k ≡ VirtualLane v j) × (is_one ns j ≡ true))
        at true same e = inr (k, ap (λ z. VirtualLane z k) (sym same), e)
        at false same e = inl (λ ss. subst (λ z. is_written (W ss) (VirtualLane z k) ≡ false) same (beside ss k e))

        go : (b : Bool) → nat_eq v w ≡ b → Free (VirtualLane w k) ⊎ ((j : ℕ) × (VirtualLane w k ≡ VirtualLane v j) × (is_one ns j ≡ true))
        go true e = at (is_one ns k) (eqb-true v w e) refl
        go false e = inl (λ ss. others ss (VirtualLane w k) e)

    -- a source that isn't old stays
    stays : (ss : List Source) (u : Source) → nat_lt v bound ≡ true → old_source bound u ≡ false → settled (through (W ss) u) ≡ u
    stays ss (FromLane m) old q = ap settled (filled-free (W ss) m (others ss m (beyond v m old q)))
    stays ss Undef old q = refl
    stays ss (Bits c low width) old q = refl

  module _ (S : Rel) (n : ℕ) (itself : (s : Source) → old_source bound s ≡ true → S s s) where
    -- after these writes of the first, and behind these copies of the second
    abbrev Q : Writes → List Writes → Source → Type 0
    Q A B s = S (settled (through A s)) (traced B s) × IsOr A s (traced B s)

    -- a phi and what follows it, whose writes come first
    module _ (c : ℕ) (i : Instr) (x : PhiOn S n c i) (flat : Writes) (copies : List Writes) where
      abbrev A : Writes
      A = W x.v x.ns x.all x.ss

      abbrev C : Writes
      C = W x.v x.ns x.all (map FromLane (lanes_by c x.ns))

      abbrev M : Writes
      M = moved false (lanes_by x.v x.ns) x.ss

      abbrev U : Writes
      U = undefined false (cond x.all (lanes_by x.v x.ns) [])

      -- a lane that a later phi writes
      later : (l : Lane) → Settles flat (FromLane l) → old_source bound (traced copies (FromLane l)) ≡ false → Q flat copies (FromLane l) → Q (flat ++ A) (C ∷ copies) (FromLane l)
      later l f past q =
          let right : traced (C ∷ copies) (FromLane l) ≡ traced copies (FromLane l) = stays x.v x.ns x.all (map FromLane (lanes_by c x.ns)) (traced copies (FromLane l)) x.old past in (
            subst (λ y. S (settled y) (traced (C ∷ copies) (FromLane l))) (sym (f A)) (subst (S (settled (filled flat l))) (sym right) q.0),
            inr ((λ us. ap (λ ws. filled ws l) (append_assoc flat A us) ∙ (f (A ++ us) ∙ sym (f A))), ap (old_source bound) right ∙ past),
          )

      -- a lane of this phi alone
      own : (k : ℕ) → is_one x.ns k ≡ true → Passes flat (FromLane (VirtualLane x.v k)) → traced copies (FromLane (VirtualLane x.v k)) ≡ FromLane (VirtualLane x.v k) → Q (flat ++ A) (C ∷ copies) (FromLane (VirtualLane x.v k))
      own k m f e =
          let z = x.given k m in
          let l = VirtualLane x.v k in
          let one : (us : Writes) → filled (A ++ us) l ≡ Moved z.source = λ us. ap (λ ws. filled ws l) (append_assoc M U us) ∙ z.one (U ++ us) in
          let left : filled (flat ++ A) l ≡ Moved z.source = f A ∙ z.one U in
          let right : traced (C ∷ copies) (FromLane l) ≡ FromLane (VirtualLane c k) = ap (λ q. settled (through C q)) e ∙ ap settled (copied-own x.v c x.ns U k m) in (
            subst (λ q. S (settled q) (traced (C ∷ copies) (FromLane l))) (sym left) (subst (S z.source) (sym right) (x.arrived k m)),
            inr ((λ us. ap (λ ws. filled ws l) (append_assoc flat A us) ∙ (f (A ++ us) ∙ (one us ∙ sym left))), ap (old_source bound) right ∙ x.new),
          )

      -- a lane that neither writes
      free : (l : Lane) → old_source bound (FromLane l) ≡ true → Free x.v x.ns x.all l → Passes flat (FromLane l) → traced copies (FromLane l) ≡ FromLane l → Q (flat ++ A) (C ∷ copies) (FromLane l)
      free l o w f e =
          let left : filled (flat ++ A) l ≡ Moved (FromLane l) = f A ∙ filled-free A l (w x.ss) in
          let right : traced (C ∷ copies) (FromLane l) ≡ FromLane l = ap (λ q. settled (through C q)) e ∙ ap settled (filled-free C l (w (map FromLane (lanes_by c x.ns)))) in (
            subst (λ y. S (settled y) (traced (C ∷ copies) (FromLane l))) (sym left) (subst (S (FromLane l)) (sym right) (itself (FromLane l) o)),
            inl ((λ us. ap (λ ws. filled ws l) (append_assoc flat A us) ∙ (f (A ++ us) ∙ filled-right A us l (w x.ss))), right),
          )

      phi-meets : (s : Source) → old_source bound s ≡ true → Q flat copies s → Q (flat ++ A) (C ∷ copies) s
      phi-meets Undef o q =
          let right : traced (C ∷ copies) Undef ≡ Undef = traced-undef (C ∷ copies) in
          (subst (S Undef) (sym right) (itself Undef refl), inl ((λ us. refl), right))
      phi-meets (Bits b low width) o q =
          let right : traced (C ∷ copies) (Bits b low width) ≡ Bits b low width = traced-bits (C ∷ copies) b low width in
          (subst (S (Bits b low width)) (sym right) (itself (Bits b low width) refl), inl ((λ us. refl), right))
      phi-meets (FromLane l) o q = by q.1
        where
          here : Passes flat (FromLane l) → traced copies (FromLane l) ≡ FromLane l → Free x.v x.ns x.all l ⊎ ((k : ℕ) × (l ≡ VirtualLane x.v k) × (is_one x.ns k ≡ true)) → Q (flat ++ A) (C ∷ copies) (FromLane l)
          here f e (inl w) = free l o w f e
          here f e (inr z) = subst (λ y. Q (flat ++ A) (C ∷ copies) (FromLane y)) (sym z.1) (own z.0 z.2 (subst (λ y. Passes flat (FromLane y)) z.1 f) (subst (λ y. traced copies (FromLane y) ≡ FromLane y) z.1 e))

          by : IsOr flat (FromLane l) (traced copies (FromLane l)) → Q (flat ++ A) (C ∷ copies) (FromLane l)
          by (inl z) = here z.0 z.1 (free-or x.v x.ns x.all l)
          by (inr z) = later l z.0 z.1 q

    -- the phis do what the copies do
    pub meets : {c : ℕ} {is : List Instr} → PhisOn S n c is → (s : Source) → old_source bound s ≡ true → Q (phis_written t h n is) (phi_copies c is) s
    meets done s o = (subst (λ q. S q s) (sym (settled-none s)) (itself s o), inl ((λ us. refl), refl))
    meets (plain {c = c} {i = i} {is = is} e xs) s o =
        let flat = phis_written t h n is in
        let copies = phi_copies (c + phi_number t i) is in
        let core : Q (flat ++ []) copies s = subst (λ ws. Q ws copies s) (sym (append-nil flat)) (meets xs s o) in
        subst (λ b. Q (flat ++ cond b (phi_operands t h n i.operands) []) (cond b (copied t h (from_incoming c i.operands) ∷ []) [] ++ copies) s) (sym e) core
    meets (phi {c = c} {i = i} {is = is} e x xs) s o =
        let flat = phis_written t h n is in
        let copies = phi_copies (c + phi_number t i) is in
        let core = phi-meets c i x flat copies s o (meets xs s o) in
        let made : copy_writes c i ≡ C c i x flat copies ∷ [] = (λ k. cond (e k) (copied t h (from_incoming c i.operands) ∷ []) []) ∙ ap (λ w. w ∷ []) x.copy in
        subst (λ ws. Q (flat ++ ws) (copy_writes c i ++ copies) s) (sym x.written) (subst (λ wss. Q (flat ++ A c i x flat copies) (wss ++ copies) s) (sym made) core)
