-- Instructions by their ids, one more at a time.
use Rattle.std.proofs.Common.{◌≡◌, ◌∷◌, ◌++◌, ◌∙◌, ◌+◌, ◌<◌, ◌≤◌, ℕ, zero, suc, Bool, List, [], None, length, get_or, take, drop, refl, sym, ap, arith, add-one, append_assoc, append-nil}
use Rattle.std.specs.Prelude.{flat_map, position}
use Rattle.std.specs.List.{position_or_len}
use Rattle.meaning.specs.Live.{Among, here, there}
use Rattle.mir_func.specs.declared.func.Instr.{Instr}
use Rattle.mir_func.proofs.Places.{position_or_len-le, position-None_is}
use Rattle.mir_func.specs.declared.func.Block.{Block}
use Rattle.live_lanes.specs.Ordered.{ids_of}
use Rattle.split_kit.specs.PartEdits.{AreWithin}

pub flat-both : {X Y : Type 0} (m : X → List Y) (xs ys : List X) → flat_map m (xs ++ ys) ≡ flat_map m xs ++ flat_map m ys
flat-both m [] ys = refl
flat-both m (x ∷ xs) ys = ap (λ zs. m x ++ zs) (flat-both m xs ys) ∙ sym (append_assoc (m x) (flat_map m xs) (flat_map m ys))

-- the instruction of the k-th of these ids, which is the last of the first k + 1
pub record IsNext (own : List Instr) (k id : ℕ) : Type 0 where
  pub instr : Instr
  pub member : Among instr own
  pub same : instr.id ≡ id
  pub last : take (k + 1) own ≡ take k own ++ instr ∷ []

next-suc : (own : List Instr) (k d : ℕ) → k < length own → (i : Instr) × Among i own × (i.id ≡ get_or (ids_of own) k d) × (take (suc k) own ≡ take k own ++ i ∷ [])
next-suc [] k d h = absurd (omega (arith, h))
next-suc (i ∷ own) zero d h = (i, here, refl, refl)
next-suc (i ∷ own) (suc k) d h = let r = next-suc own k d (omega (arith, h)) in (r.0, there r.1, r.2, ap (λ xs. i ∷ xs) r.3)

length-ids : (own : List Instr) → length (ids_of own) ≡ length own
length-ids [] = refl
length-ids (i ∷ own) = ap suc (length-ids own)

pub next-of : (own : List Instr) (ids : List ℕ) (k d : ℕ) → ids ≡ ids_of own → k < length ids → IsNext own k (get_or ids k d)
next-of own ids k d e h =
    let r = next-suc own k d (omega (arith, h, ap length e, length-ids own)) in
    record { instr = r.0; member = r.1; same = r.2 ∙ ap (λ xs. get_or xs k d) (sym e); last = ap (λ n. take n own) (add-one k) ∙ r.3 }

pub flat-next : {Y : Type 0} (m : Instr → List Y) (own : List Instr) (k id : ℕ) (n : IsNext own k id) (old now new : List Y) → now ≡ old ++ flat_map m (take k own) → new ≡ now ++ m n.instr → new ≡ old ++ flat_map m (take (k + 1) own)
flat-next m own k id n old now new before last =
    last ∙ (ap (λ xs. xs ++ m n.instr) before
    ∙ (append_assoc old (flat_map m (take k own)) (m n.instr)
    ∙ ap (λ xs. old ++ xs) (sym (ap (flat_map m) n.last ∙ (flat-both m (take k own) (n.instr ∷ []) ∙ ap (λ xs. flat_map m (take k own) ++ xs) (append-nil (m n.instr)))))))

pub none-behind : {X : Type 0} (p : X → Bool) (xs : List X) → None ≡ position p xs → length xs ≡ position_or_len p xs
none-behind p xs e = omega (arith, position_or_len-le p xs, position-None_is p xs (sym e))

pub all-taken : {X : Type 0} (xs : List X) (k : ℕ) → length xs ≤ k → take k xs ≡ xs
all-taken [] zero h = refl
all-taken [] (suc k) h = refl
all-taken (x ∷ xs) zero h = absurd (omega (arith, h))
all-taken (x ∷ xs) (suc k) h = ap (λ ys. x ∷ ys) (all-taken xs k (omega (arith, h)))

pub ids-taken : (k : ℕ) (own : List Instr) → take k (ids_of own) ≡ ids_of (take k own)
ids-taken zero [] = refl
ids-taken (suc k) [] = refl
ids-taken zero (i ∷ own) = refl
ids-taken (suc k) (i ∷ own) = ap (λ xs. i.id ∷ xs) (ids-taken k own)

pub ids-dropped : (k : ℕ) (own : List Instr) → drop k (ids_of own) ≡ ids_of (drop k own)
ids-dropped zero [] = refl
ids-dropped (suc k) [] = refl
ids-dropped zero (i ∷ own) = refl
ids-dropped (suc k) (i ∷ own) = ids-dropped k own

taken-member : {X : Type 0} (k : ℕ) (x : X) (xs : List X) → Among x (take k xs) → Among x xs
taken-member zero x [] m = m
taken-member (suc k) x [] m = m
taken-member zero x (y ∷ xs) m = elim m [ ]
taken-member (suc k) x (y ∷ xs) here = here
taken-member (suc k) x (y ∷ xs) (there m) = there (taken-member k x xs m)

dropped-member : {X : Type 0} (k : ℕ) (x : X) (xs : List X) → Among x (drop k xs) → Among x xs
dropped-member zero x [] m = m
dropped-member (suc k) x [] m = m
dropped-member zero x (y ∷ xs) m = m
dropped-member (suc k) x (y ∷ xs) m = there (dropped-member k x xs m)

pub within-taken : (bs : List Block) (k : ℕ) (own : List Instr) → AreWithin bs own → AreWithin bs (take k own)
within-taken bs k own w i m = w i (taken-member k i own m)

pub within-dropped : (bs : List Block) (k : ℕ) (own : List Instr) → AreWithin bs own → AreWithin bs (drop k own)
within-dropped bs k own w i m = w i (dropped-member k i own m)

pub three : {X : Type 0} (old now new xs ys : List X) → now ≡ old ++ xs → new ≡ now ++ ys → new ≡ old ++ (xs ++ ys)
three old now new xs ys p q = q ∙ (ap (λ zs. zs ++ ys) p ∙ append_assoc old xs ys)
