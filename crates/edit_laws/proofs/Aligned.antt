-- Two functions of which one is an edit of the other: their blocks side by side, and their codes.
use Rattle.std.proofs.Common.{◌≡◌, ◌∷◌, ◌++◌, ◌∙◌, not, ℕ, suc, ◌+◌, Bool, true, false, cond, List, [], Some, None, refl, sym, ap, subst, map, append-nil, length, drop, arith}
use Rattle.std.specs.Prelude.{nat_eq, nat_lt}
use Rattle.std.specs.List.{find}
use Rattle.std.proofs.lemmas.Bool.{le-ltb, lt-ltb, ltb-false, ltb-true}
use Rattle.target_base.specs.declared.types.Target.{Target}
use Rattle.target_base.specs.Rules.{is_phi}
use Rattle.meaning.specs.declared.types.Lane.{Lane}
use Rattle.meaning.specs.Lanes.{Writes}
use Rattle.meaning.specs.Code.{Code, Item, BlockStart}
use Rattle.meaning.specs.Live.{Among, here, there, reads_of, writes_of}
use Rattle.mir_func.specs.declared.func.Block.{Block}
use Rattle.mir_func.specs.declared.func.Edge.{Edge as Successor}
use Rattle.mir_func.specs.declared.func.Instr.{Instr}
use Rattle.mir_func.specs.Value.{Function}
use Rattle.mir_func.specs.Edits.{instr_place}
use Rattle.mir_func.specs.Binding.{does, is_terminator}
use Rattle.mir_meaning.specs.Codes.{block_end, blocks_code, instrs_of, phi_operands, phi_writes, phis_written, way, ways_out}
use Rattle.mir_meaning.specs.Points.{from_instr, point_item, points_of}
use Rattle.laws.proofs.Flow.{none_among}
use Rattle.edit_laws.specs.Named.{Names, reads, copies, writes}
use Rattle.edit_laws.specs.Treated.{alike_at, treat_alike}
use Rattle.edit_laws.proofs.Alike.{same-kept, treated-kept}
use Rattle.edit_laws.proofs.Beside.{IsClosed, NamesOnly, IsAlone, IsKept, Beside, none, starts, stays, goes, comes, Facing, neither, at_alike}
use Rattle.edit_laws.proofs.Shell.{phi-same, reads-same, writes-same, exits-are, is-plain}

-- instructions of which some go, some come, and some change
pub data AreInstrs (Goes Comes : Instr → Type 0) (Both : Instr → Instr → Type 0) : List Instr → List Instr → Type 0 where
  no_instrs : AreInstrs Goes Comes Both [] []
  instr_stays : {i : Instr} {is js : List Instr} → AreInstrs Goes Comes Both is js → AreInstrs Goes Comes Both (i ∷ is) (i ∷ js)
  instr_changes : {i j : Instr} {is js : List Instr} → Both i j → AreInstrs Goes Comes Both is js → AreInstrs Goes Comes Both (i ∷ is) (j ∷ js)
  instr_goes : {i : Instr} {is js : List Instr} → Goes i → AreInstrs Goes Comes Both is js → AreInstrs Goes Comes Both (i ∷ is) js
  instr_comes : {j : Instr} {is js : List Instr} → Comes j → AreInstrs Goes Comes Both is js → AreInstrs Goes Comes Both is (j ∷ js)

-- blocks with such instructions
pub data AreBlocks (Goes Comes : Instr → Type 0) (Both : Instr → Instr → Type 0) : List Block → List Block → Type 0 where
  no_blocks : AreBlocks Goes Comes Both [] []
  block_stays : {b c : Block} {bs cs : List Block} → b.number ≡ c.number → b.successors ≡ c.successors → AreInstrs Goes Comes Both b.instrs c.instrs → AreBlocks Goes Comes Both bs cs → AreBlocks Goes Comes Both (b ∷ bs) (c ∷ cs)

-- an instruction that comes or goes is neither a phi nor a terminator, and names these lanes alone
pub record IsFree (t : Target) (f : Function) (Led : Lane → Type 0) (i : Instr) : Type 0 where
  pub phi : does is_phi t i ≡ false
  pub terminator : does is_terminator t i ≡ false
  pub names : (b : Block) → NamesOnly Led (point_item t f b i)

-- one that changes stays a terminator, or none, and treats all other lanes as it did
pub record IsTurned (t : Target) (f : Function) (Led : Lane → Type 0) (i j : Instr) : Type 0 where
  pub phi : does is_phi t i ≡ false
  pub phi' : does is_phi t j ≡ false
  pub terminator : does is_terminator t i ≡ does is_terminator t j
  pub differ : (b : Block) (l : Lane) → treat_alike (point_item t f b i) (point_item t f b j) l ≡ false → Led l

pub names-alike : {i j : Item} {l : Lane} → reads_of i ≡ reads_of j → writes_of i ≡ writes_of j → Names i l → Names j l
names-alike e g (reads ss m s) = reads ss (subst (Among ss) e m) s
names-alike e g (copies a m) = copies a (m.0, subst (Among m.0) g m.1, m.2, m.3)
names-alike e g (writes w) = writes (w.0, subst (Among w.0) g w.1, w.2)

-- from the first of some instructions that has the id on, or another place
abbrev pub rest_from : (Instr → Item) → ℕ → List Instr → Code → Code → Code
rest_from item id [] p other = other
rest_from item id (i ∷ is) p other = cond (nat_eq i.id id) (map item (i ∷ is) ++ p) (rest_from item id is p other)

lt-suc : (a b : ℕ) → nat_lt (suc a) (suc b) ≡ nat_lt a b
lt-suc a b = go (nat_lt a b) refl
  where
    go : (u : Bool) → nat_lt a b ≡ u → nat_lt (suc a) (suc b) ≡ u
    go true e = lt-ltb (suc a) (suc b) (let h = ltb-true a b e in omega (arith, h))
    go false e = le-ltb (suc a) (suc b) (let h = ltb-false a b e in omega (arith, h))

pub rest-is : (item : Instr → Item) (id : ℕ) (is : List Instr) (p other : Code) → cond (nat_lt (instr_place id is) (length is)) (map item (drop (instr_place id is) is) ++ p) other ≡ rest_from item id is p other
rest-is item id [] p other = ap (λ v. cond v p other) (le-ltb 0 0 (omega arith))
rest-is item id (i ∷ is) p other = go (nat_eq i.id id) (rest-is item id is p other)
  where
    more : 1 + instr_place id is ≡ suc (instr_place id is)
    more = omega arith

    go : (u : Bool) → cond (nat_lt (instr_place id is) (length is)) (map item (drop (instr_place id is) is) ++ p) other ≡ rest_from item id is p other → cond (nat_lt (cond (not u) (1 + instr_place id is) 0) (length (i ∷ is))) (map item (drop (cond (not u) (1 + instr_place id is) 0) (i ∷ is)) ++ p) other ≡ cond u (map item (i ∷ is) ++ p) (rest_from item id is p other)
    go true ih = ap (λ v. cond v (map item (i ∷ is) ++ p) other) (lt-ltb 0 (suc (length is)) (omega arith))
    go false ih =
        (λ k. cond (nat_lt (more k) (length (i ∷ is))) (map item (drop (more k) (i ∷ is)) ++ p) other)
        ∙ ((λ k. cond (lt-suc (instr_place id is) (length is) k) (map item (drop (suc (instr_place id is)) (i ∷ is)) ++ p) other)
        ∙ ih)

module _ (t : Target) (f g : Function) (same : f.classes ≡ g.classes) (Led : Lane → Type 0) (Goes Comes : Instr → Type 0) (Both : Instr → Instr → Type 0) (goes-free : (i : Instr) → Goes i → IsFree t f Led i) (comes-free : (i : Instr) → Comes i → IsFree t f Led i) (turns : (i j : Instr) → Both i j → IsTurned t f Led i j) where
  -- the ways into blocks are the same

  no-phi : (h : Function) (n : ℕ) (i : Instr) → does is_phi t i ≡ false → phi_writes t h n i ≡ []
  no-phi h n i e = ap (λ u. cond u (phi_operands t h n i.operands) []) e

  phis-same : (n : ℕ) {is js : List Instr} → AreInstrs Goes Comes Both is js → phis_written t f n is ≡ phis_written t g n js
  phis-same n no_instrs = refl
  phis-same n (instr_stays {i = i} a) = λ k. phis-same n a k ++ phi-same t f g same n i k
  phis-same n (instr_changes {i = i} {j = j} h a) = λ k. phis-same n a k ++ (no-phi f n i (turns i j h).phi ∙ sym (no-phi g n j (turns i j h).phi')) k
  phis-same n (instr_goes {i = i} {is = is} h a) = (λ k. phis_written t f n is ++ no-phi f n i (goes-free i h).phi k) ∙ append-nil (phis_written t f n is) ∙ phis-same n a
  phis-same n (instr_comes {j = j} {js = js} h a) = phis-same n a ∙ sym ((λ k. phis_written t g n js ++ no-phi g n j (comes-free j h).phi k) ∙ append-nil (phis_written t g n js))

  -- what the first block of a number gives, where it is the first of all or not
  abbrev first_phis : ℕ → ℕ → Block → List Block → Bool → Writes
  first_phis n m c cs u = phis_written t g n (elim (cond u (Some c) (find (λ d. nat_eq d.number m) cs)) [ None ↦ [] | Some d ↦ d.instrs ])

  found-same : (n m : ℕ) {bs cs : List Block} → AreBlocks Goes Comes Both bs cs → phis_written t f n (instrs_of bs m) ≡ phis_written t g n (instrs_of cs m)
  found-same n m no_blocks = refl
  found-same n m (block_stays {b = b} {c = c} {bs = bs} {cs = cs} number successors a rest) =
      go (nat_eq b.number m) (found-same n m rest) ∙ ap (λ x. first_phis n m c cs (nat_eq x m)) number
    where
      go : (u : Bool) → phis_written t f n (instrs_of bs m) ≡ phis_written t g n (instrs_of cs m) → phis_written t f n (elim (cond u (Some b) (find (λ d. nat_eq d.number m) bs)) [ None ↦ [] | Some d ↦ d.instrs ]) ≡ first_phis n m c cs u
      go true ih = phis-same n a
      go false ih = ih

  module _ (aligned : AreBlocks Goes Comes Both f.blocks g.blocks) where
    way-same : (n m : ℕ) → way t f n m ≡ way t g n m
    way-same n m = λ k. record { block = m; phis = found-same n m aligned k }

    out-same : (b c : Block) → b.number ≡ c.number → b.successors ≡ c.successors → ways_out t f b ≡ ways_out t g c
    out-same b c number successors = λ k. map (λ (e : Successor). way-same (number k) e.block k) (successors k)

    module _ (b c : Block) (number : b.number ≡ c.number) (successors : b.successors ≡ c.successors) where
      -- items

      kept-item : (i : Instr) → IsClosed Led (point_item t f b i) → IsKept Led (point_item t f b i) (point_item t g c i)
      kept-item i closed =
          same-kept Led (point_item t f b i) (point_item t g c i) closed ((is-plain t f b i).1 ∙ sym (is-plain t g c i).1)
          (exits-are t f b i ∙ (ap (λ es. cond (does is_terminator t i) es []) (out-same b c number successors) ∙ sym (exits-are t g c i)))
          ((is-plain t f b i).0 ∙ sym (is-plain t g c i).0) (reads-same t f g same b c i) (writes-same t f g same b c i)

      goes-alone : (i : Instr) → IsFree t f Led i → IsAlone Led (point_item t f b i)
      goes-alone i h = record {
        inside = (is-plain t f b i).1;
        order = (is-plain t f b i).0;
        exits = exits-are t f b i ∙ ap (λ u. cond u (ways_out t f b) []) h.terminator;
        names = h.names b;
      }

      in-second : (j : Instr) → NamesOnly Led (point_item t f c j) → NamesOnly Led (point_item t g c j)
      in-second j names = λ l n. names l (names-alike (sym (reads-same t f g same c c j)) (sym (writes-same t f g same c c j)) n)

      comes-alone : (j : Instr) → IsFree t f Led j → IsAlone Led (point_item t g c j)
      comes-alone j h = record {
        inside = (is-plain t g c j).1;
        order = (is-plain t g c j).0;
        exits = exits-are t g c j ∙ ap (λ u. cond u (ways_out t g c) []) h.terminator;
        names = in-second j (h.names c);
      }

      changed-item : (i j : Instr) → IsClosed Led (point_item t f b i) → IsTurned t f Led i j → IsKept Led (point_item t f b i) (point_item t g c j)
      changed-item i j closed h =
          treated-kept Led (point_item t f b i) (point_item t g c j) closed ((is-plain t f b i).1 ∙ sym (is-plain t g c j).1)
          (exits-are t f b i ∙ ((λ k. cond (h.terminator k) (out-same b c number successors k) []) ∙ sym (exits-are t g c j)))
          ((is-plain t f b i).0 ∙ sym (is-plain t g c j).0)
          (λ l e. h.differ b l ((λ k. alike_at (reads_of (point_item t f b i)) (writes_of (point_item t f b i)) (reads-same t f g same b c j k) (writes-same t f g same b c j k) l) ∙ e))

      end-kept : (bs cs : List Block) → IsKept Led (block_end t f b bs) (block_end t g c cs)
      end-kept bs cs = same-kept Led (block_end t f b bs) (block_end t g c cs) (λ l a d m one x. absurd (none_among m.0 m.1)) refl (out-same b c number successors) refl refl refl

      instrs-beside : {is js : List Instr} {p q : Code} → AreInstrs Goes Comes Both is js → ((i : Instr) → Among i is → IsClosed Led (point_item t f b i)) → Beside Led p q → Beside Led (map (point_item t f b) is ++ p) (map (point_item t g c) js ++ q)
      instrs-beside no_instrs closed r = r
      instrs-beside (instr_stays {i = i} a) closed r = stays (is-plain t f b i).1 (kept-item i (closed i here)) (instrs-beside a (λ j m. closed j (there m)) r)
      instrs-beside (instr_changes {i = i} {j = j} h a) closed r = stays (is-plain t f b i).1 (changed-item i j (closed i here) (turns i j h)) (instrs-beside a (λ x m. closed x (there m)) r)
      instrs-beside (instr_goes {i = i} h a) closed r = goes (goes-alone i (goes-free i h)) (instrs-beside a (λ x m. closed x (there m)) r)
      instrs-beside (instr_comes {j = j} h a) closed r = comes (comes-alone j (comes-free j h)) (instrs-beside a closed r)

      rest-facing :
          (id : ℕ) → ((i : Instr) → Goes i → nat_eq i.id id ≡ false) → ((i : Instr) → Comes i → nat_eq i.id id ≡ false) → ((i j : Instr) → Both i j → i.id ≡ j.id)
          → {is js : List Instr} {p q other other' : Code} → AreInstrs Goes Comes Both is js → ((i : Instr) → Among i is → IsClosed Led (point_item t f b i)) → Beside Led p q → Facing Led other other'
          → Facing Led (rest_from (point_item t f b) id is p other) (rest_from (point_item t g c) id js q other')
      rest-facing id away came one no_instrs closed r o = o
      rest-facing id away came one {p = p} {q = q} {other = other} {other' = other'} (instr_stays {i = i} {is = is} {js = js} a) closed r o = go (nat_eq i.id id) (rest-facing id away came one a (λ x m. closed x (there m)) r o)
        where
          go : (u : Bool) → Facing Led (rest_from (point_item t f b) id is p other) (rest_from (point_item t g c) id js q other') → Facing Led (cond u (map (point_item t f b) (i ∷ is) ++ p) (rest_from (point_item t f b) id is p other)) (cond u (map (point_item t g c) (i ∷ js) ++ q) (rest_from (point_item t g c) id js q other'))
          go true ih = at_alike (is-plain t f b i).1 (kept-item i (closed i here)) (instrs-beside a (λ x m. closed x (there m)) r)
          go false ih = ih
      rest-facing id away came one {p = p} {q = q} {other = other} {other' = other'} (instr_changes {i = i} {j = j} {is = is} {js = js} h a) closed r o =
          subst (λ n. Facing Led (cond (nat_eq i.id id) (map (point_item t f b) (i ∷ is) ++ p) (rest_from (point_item t f b) id is p other)) (cond (nat_eq n id) (map (point_item t g c) (j ∷ js) ++ q) (rest_from (point_item t g c) id js q other'))) (one i j h)
          (go (nat_eq i.id id) (rest-facing id away came one a (λ x m. closed x (there m)) r o))
        where
          go : (u : Bool) → Facing Led (rest_from (point_item t f b) id is p other) (rest_from (point_item t g c) id js q other') → Facing Led (cond u (map (point_item t f b) (i ∷ is) ++ p) (rest_from (point_item t f b) id is p other)) (cond u (map (point_item t g c) (j ∷ js) ++ q) (rest_from (point_item t g c) id js q other'))
          go true ih = at_alike (is-plain t f b i).1 (changed-item i j (closed i here) (turns i j h)) (instrs-beside a (λ x m. closed x (there m)) r)
          go false ih = ih
      rest-facing id away came one {p = p} {q = q} {other = other} {other' = other'} (instr_goes {i = i} {is = is} {js = js} h a) closed r o =
          subst (λ u. Facing Led (cond u (map (point_item t f b) (i ∷ is) ++ p) (rest_from (point_item t f b) id is p other)) (rest_from (point_item t g c) id js q other')) (sym (away i h))
          (rest-facing id away came one a (λ x m. closed x (there m)) r o)
      rest-facing id away came one {p = p} {q = q} {other = other} {other' = other'} (instr_comes {j = j} {is = is} {js = js} h a) closed r o =
          subst (λ u. Facing Led (rest_from (point_item t f b) id is p other) (cond u (map (point_item t g c) (j ∷ js) ++ q) (rest_from (point_item t g c) id js q other'))) (sym (came j h))
          (rest-facing id away came one a closed r o)

    module _ (closed : (b : Block) (i : Instr) → Among b f.blocks → Among i b.instrs → IsClosed Led (point_item t f b i)) where
      blocks-beside : {bs cs : List Block} → AreBlocks Goes Comes Both bs cs → ((b : Block) → Among b bs → Among b f.blocks) → Beside Led (blocks_code (point_item t f) t f bs) (blocks_code (point_item t g) t g cs)
      blocks-beside no_blocks sub = none
      blocks-beside (block_stays {b = b} {c = c} {bs = bs} {cs = cs} number successors a rest) sub =
          subst (λ n. Beside Led (BlockStart b.number ∷ (map (point_item t f b) b.instrs ++ (block_end t f b bs ∷ blocks_code (point_item t f) t f bs))) (BlockStart n ∷ (map (point_item t g c) c.instrs ++ (block_end t g c cs ∷ blocks_code (point_item t g) t g cs)))) number
          (starts (instrs-beside b c number successors a (λ i m. closed b i (sub b here) m) (stays refl (end-kept b c number successors bs cs) (blocks-beside rest (λ d m. sub d (there m))))))

      pub codes-beside : Beside Led (points_of t f) (points_of t g)
      unfolding points_of
      codes-beside = blocks-beside aligned (λ b m. m)

      module _ (id : ℕ) (away : (i : Instr) → Goes i → nat_eq i.id id ≡ false) (came : (i : Instr) → Comes i → nat_eq i.id id ≡ false) (one : (i j : Instr) → Both i j → i.id ≡ j.id) where
        from-facing : {bs cs : List Block} → AreBlocks Goes Comes Both bs cs → ((b : Block) → Among b bs → Among b f.blocks) → Facing Led (from_instr t f id bs) (from_instr t g id cs)
        from-facing no_blocks sub = neither
        from-facing (block_stays {b = b} {c = c} {bs = bs} {cs = cs} number successors a rest) sub =
            subst (λ x. Facing Led x (from_instr t g id (c ∷ cs))) (sym (rest-is (point_item t f b) id b.instrs (block_end t f b bs ∷ blocks_code (point_item t f) t f bs) (from_instr t f id bs)))
            (subst (λ y. Facing Led (rest_from (point_item t f b) id b.instrs (block_end t f b bs ∷ blocks_code (point_item t f) t f bs) (from_instr t f id bs)) y) (sym (rest-is (point_item t g c) id c.instrs (block_end t g c cs ∷ blocks_code (point_item t g) t g cs) (from_instr t g id cs)))
            (rest-facing b c number successors id away came one a (λ i m. closed b i (sub b here) m) (stays refl (end-kept b c number successors bs cs) (blocks-beside rest (λ d m. sub d (there m)))) (from-facing rest (λ d m. sub d (there m)))))

        pub places-facing : Facing Led (from_instr t f id f.blocks) (from_instr t g id g.blocks)
        places-facing = from-facing aligned (λ b m. m)
