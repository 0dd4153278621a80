-- What is written, piece by piece.
use Rattle.std.proofs.Common.{◌≡◌, ℕ, ◌≤◌, ◌+◌, ◌-◌, List, ◌++◌, length, take, drop, Option, Some, None, ap, sym, ◌∙◌, subst, arith, append_assoc, length-drop, length-append}
use Rattle.std.specs.Prelude.{IfSome}
use Rattle.std.proofs.Math.Seq.{take-append-add}
use Rattle.std.proofs.lemmas.List.{take-append-drop, drop-take, take-take, take_all, take-append-le}
use Rattle.ra_top.specs.Devices.Device.{WritesPart, WritesAll}

pub take_on : (bs : List ℕ) (i n : ℕ) → take i bs ++ take n (drop i bs) ≡ take (i + n) bs
take_on bs i n =
    let front = take-take i (i + n) bs (omega arith) in
    let whole = take-append-drop i (take (i + n) bs) in
    rw (← drop-take i n bs) (rw front at whole)

take_further : (bs : List ℕ) (i n : ℕ) → take i bs ++ take n (take (length bs - i) (drop i bs)) ≡ take (i + n) bs
take_further bs i n =
    let inner = take_all (length bs - i) (drop i bs) (omega (arith, length-drop i bs)) in
    let front = take-take i (i + n) bs (omega arith) in
    let back = drop-take i n bs in
    let whole = take-append-drop i (take (i + n) bs) in
    rw inner (rw (← back) (rw front at whole))

pub written_more : (old mid new : Option (List ℕ)) (bs : List ℕ) (i n : ℕ) → IfSome old (λ w. mid ≡ Some (w ++ take i bs)) → IfSome mid (λ w. new ≡ Some (w ++ take n (take (length bs - i) (drop i bs)))) → IfSome old (λ w. new ≡ Some (w ++ take (i + n) bs))
written_more None mid new bs i n so_far next = tt
written_more (Some w) mid new bs i n so_far next =
    let at : new ≡ Some ((w ++ take i bs) ++ take n (take (length bs - i) (drop i bs))) = subst (λ m. IfSome m (λ v. new ≡ Some (v ++ take n (take (length bs - i) (drop i bs))))) so_far next in
    at ∙ ap Some (append_assoc w _ _ ∙ ap (λ r. w ++ r) (take_further bs i n))

-- all of one text, then a first part of another
pub part_after : (old mid new : Option (List ℕ)) (xs ys : List ℕ) → WritesAll old mid xs → WritesPart mid new ys → WritesPart old new (xs ++ ys)
part_after None mid new xs ys a p = tt
part_after (Some w) mid new xs ys a p =
    let (k, within, made) = subst (λ m. IfSome m (λ v. (k : ℕ) × (k ≤ length ys) × (new ≡ Some (v ++ take k ys)))) a p in (
      length xs + k,
      omega (arith, within, length-append xs ys),
      made ∙ ap Some (append_assoc w xs (take k ys) ∙ ap (λ r. w ++ r) (sym (take-append-add xs ys k))),
    )

-- a first part of the first of two texts
pub part_before : (old new : Option (List ℕ)) (xs ys : List ℕ) → WritesPart old new xs → WritesPart old new (xs ++ ys)
part_before None new xs ys p = tt
part_before (Some w) new xs ys (k, within, made) = (
  k,
  omega (arith, within, length-append xs ys),
  made ∙ ap (λ r. Some (w ++ r)) (sym (take-append-le k xs ys within)),
)

-- all of one text, then all of another
pub all_after : (old mid new : Option (List ℕ)) (xs ys : List ℕ) → WritesAll old mid xs → WritesAll mid new ys → WritesAll old new (xs ++ ys)
all_after None mid new xs ys a b = tt
all_after (Some w) mid new xs ys a b = subst (λ m. IfSome m (λ v. new ≡ Some (v ++ ys))) a b ∙ ap Some (append_assoc w xs ys)
