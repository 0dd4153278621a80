-- Two functions have at most one first place in doubt, and none where they agree.
use Rattle.std.proofs.Common.{◌≡◌, ◌∷◌, ◌&&◌, ◌∙◌, ℕ, zero, suc, Bool, true, false, List, Option, Some, None, refl, sym, ap, map, []}
use Rattle.std.specs.Prelude.{option_map, slice_get}
use Rattle.target_base.specs.declared.types.Target.{Target}
use Rattle.meaning.specs.Agree.{Family, rows_agree, rows_hold}
use Rattle.meaning.specs.Facts.{Knowledge, all_known, everything, known, known_at_start, known_both, known_first, known_second, operands_known}
use Rattle.meaning.specs.Agree.{facts_at, target_holds, ways_hold}
use Rattle.meaning.specs.Pairing.{pairing}
use Rattle.meaning.specs.declared.types.Row.{Row}
use Rattle.meaning.specs.declared.types.Row.TheVariants.{BothCounted, BothEnd, BothStart, FirstSilent, SecondSilent}
use Rattle.mir_func.specs.Value.{Function}
use Rattle.mir_func.specs.declared.func.Place.{Place}
use Rattle.mir_meaning.specs.Agreement.{Agrees, FactsHold, FirstDoubt, HasFacts, LawOfDoubts, asking_at, block_doubt, counted_places, invalid, of_block, of_fact, of_partner, partner_doubt, second_meaning, without_reads}
use Rattle.mir_meaning.specs.Codes.{meaning_of}
use Rattle.mir_meaning.specs.Valid.{Fault, FirstFault, IsValid}
use Rattle.mir_meaning.specs.declared.Form.TheVariants.{Allocated}
use Rattle.mir_meaning.proofs.Faults.{law_of_faults, more, less, not_both, ordered, Ordered, same, same_some}
use Rattle.mir_meaning.proofs.Points.{both}

and_both : (a b : Bool) → a ≡ true → b ≡ true → (a && b) ≡ true
and_both true b e f = f
and_both false b e f = absurd (cc)

module _ (family : Family) where
  -- rows whose operands ask for nothing hold where the rows do
  asking_nothing : (rows : List Row) (k : Knowledge) → rows_hold family rows k ≡ true → rows_hold family (map without_reads rows) k ≡ true
  asking_nothing [] k h = refl
  asking_nothing (BothStart n ∷ rows) k h =
      let p = both (all_known k (facts_at family n)) (rows_hold family rows (known (facts_at family n))) h in
      and_both (all_known k (facts_at family n)) (rows_hold family (map without_reads rows) (known (facts_at family n))) p.0 (asking_nothing rows (known (facts_at family n)) p.1)
  asking_nothing (BothEnd (Some e) exits ∷ rows) k h =
      let p = both (ways_hold family k exits) (rows_hold family rows (known_second e.1 (known_first e.0 k))) h in
      and_both (ways_hold family k exits) (rows_hold family (map without_reads rows) (known_second e.1 (known_first e.0 k))) p.0 (asking_nothing rows (known_second e.1 (known_first e.0 k)) p.1)
  asking_nothing (BothEnd None exits ∷ rows) k h =
      let p = both (ways_hold family k exits) (rows_hold family rows everything) h in
      and_both (ways_hold family k exits) (rows_hold family (map without_reads rows) everything) p.0 (asking_nothing rows everything p.1)
  asking_nothing (FirstSilent reads ws ∷ rows) k h = asking_nothing rows (known_first ws k) h
  asking_nothing (SecondSilent reads ws ∷ rows) k h = asking_nothing rows (known_second ws k) h
  asking_nothing (BothCounted r reads reads' ws ws' target exits ∷ rows) k h =
      let k' : Knowledge = known_both ws ws' k in
      let p = both (operands_known k reads reads') (target_holds family k' target && (ways_hold family k' exits && rows_hold family rows k')) h in
      let q = both (target_holds family k' target) (ways_hold family k' exits && rows_hold family rows k') p.1 in
      let s = both (ways_hold family k' exits) (rows_hold family rows k') q.1 in
      and_both (target_holds family k' target) (ways_hold family k' exits && rows_hold family (map without_reads rows) k') q.0 (and_both (ways_hold family k' exits) (rows_hold family (map without_reads rows) k') s.0 (asking_nothing rows k' s.1))

  -- and so do rows of which one asks
  asking_once : (n : ℕ) (rows : List Row) (k : Knowledge) → rows_hold family rows k ≡ true → rows_hold family (asking_at n rows) k ≡ true
  asking_once n [] k h = refl
  asking_once zero (BothStart m ∷ rows) k h =
      let p = both (all_known k (facts_at family m)) (rows_hold family rows (known (facts_at family m))) h in
      and_both (all_known k (facts_at family m)) (rows_hold family (asking_at zero rows) (known (facts_at family m))) p.0 (asking_once zero rows (known (facts_at family m)) p.1)
  asking_once (suc n) (BothStart m ∷ rows) k h =
      let p = both (all_known k (facts_at family m)) (rows_hold family rows (known (facts_at family m))) h in
      and_both (all_known k (facts_at family m)) (rows_hold family (asking_at (suc n) rows) (known (facts_at family m))) p.0 (asking_once (suc n) rows (known (facts_at family m)) p.1)
  asking_once zero (BothEnd (Some e) exits ∷ rows) k h =
      let p = both (ways_hold family k exits) (rows_hold family rows (known_second e.1 (known_first e.0 k))) h in
      and_both (ways_hold family k exits) (rows_hold family (asking_at zero rows) (known_second e.1 (known_first e.0 k))) p.0 (asking_once zero rows (known_second e.1 (known_first e.0 k)) p.1)
  asking_once (suc n) (BothEnd (Some e) exits ∷ rows) k h =
      let p = both (ways_hold family k exits) (rows_hold family rows (known_second e.1 (known_first e.0 k))) h in
      and_both (ways_hold family k exits) (rows_hold family (asking_at (suc n) rows) (known_second e.1 (known_first e.0 k))) p.0 (asking_once (suc n) rows (known_second e.1 (known_first e.0 k)) p.1)
  asking_once zero (BothEnd None exits ∷ rows) k h =
      let p = both (ways_hold family k exits) (rows_hold family rows everything) h in
      and_both (ways_hold family k exits) (rows_hold family (asking_at zero rows) everything) p.0 (asking_once zero rows everything p.1)
  asking_once (suc n) (BothEnd None exits ∷ rows) k h =
      let p = both (ways_hold family k exits) (rows_hold family rows everything) h in
      and_both (ways_hold family k exits) (rows_hold family (asking_at (suc n) rows) everything) p.0 (asking_once (suc n) rows everything p.1)
  asking_once zero (FirstSilent reads ws ∷ rows) k h = asking_once zero rows (known_first ws k) h
  asking_once (suc n) (FirstSilent reads ws ∷ rows) k h = asking_once (suc n) rows (known_first ws k) h
  asking_once zero (SecondSilent reads ws ∷ rows) k h = asking_once zero rows (known_second ws k) h
  asking_once (suc n) (SecondSilent reads ws ∷ rows) k h = asking_once (suc n) rows (known_second ws k) h
  asking_once zero (BothCounted r reads reads' ws ws' target exits ∷ rows) k h =
      let k' : Knowledge = known_both ws ws' k in
      let p = both (operands_known k reads reads') (target_holds family k' target && (ways_hold family k' exits && rows_hold family rows k')) h in
      let q = both (target_holds family k' target) (ways_hold family k' exits && rows_hold family rows k') p.1 in
      let s = both (ways_hold family k' exits) (rows_hold family rows k') q.1 in
      and_both (operands_known k reads reads') (target_holds family k' target && (ways_hold family k' exits && rows_hold family (map without_reads rows) k')) p.0 (and_both (target_holds family k' target) (ways_hold family k' exits && rows_hold family (map without_reads rows) k') q.0 (and_both (ways_hold family k' exits) (rows_hold family (map without_reads rows) k') s.0 (asking_nothing rows k' s.1)))
  asking_once (suc n) (BothCounted r reads reads' ws ws' target exits ∷ rows) k h =
      let k' : Knowledge = known_both ws ws' k in
      let p = both (operands_known k reads reads') (target_holds family k' target && (ways_hold family k' exits && rows_hold family rows k')) h in
      let q = both (target_holds family k' target) (ways_hold family k' exits && rows_hold family rows k') p.1 in
      let s = both (ways_hold family k' exits) (rows_hold family rows k') q.1 in
      and_both (target_holds family k' target) (ways_hold family k' exits && rows_hold family (asking_at n rows) k') q.0 (and_both (ways_hold family k' exits) (rows_hold family (asking_at n rows) k') s.0 (asking_once n rows k' s.1))

  agree_once : (n : ℕ) (rows : Option (List Row)) (k : Knowledge) → rows_agree family rows k ≡ true → rows_agree family (option_map (asking_at n) rows) k ≡ true
  agree_once n None k h = absurd (cc)
  agree_once n (Some rows) k h = asking_once n rows k h

module _ (t : Target) (f g : Function) where
  has_facts : (n : ℕ) → FactsHold t f g → HasFacts t f g n
  has_facts n h = (h.0, agree_once h.0 n (pairing (meaning_of t f).code (second_meaning t f g).code) (known_at_start (meaning_of t f).given (second_meaning t f g).given) h.1)

  valid_alone : (x : Fault) → FirstFault t Allocated g x → IsValid t Allocated g → ⊥
  valid_alone x h v = (law_of_faults t Allocated g x x h).0 v

  disagree : (p : Place) → FirstDoubt t f g p → Agrees t f g → ⊥
  disagree p (invalid {fault = x} h) a = valid_alone x h a.valid
  disagree p (of_block v e) a = not_both (block_doubt t f g) p a.blocks e
  disagree p (of_partner v b e) a = not_both (partner_doubt t f g) p a.partners e
  disagree p (of_fact {n = n} v b e s before lacks) a = lacks (has_facts n a.facts)

  same_doubt : (p q : Place) → FirstDoubt t f g p → FirstDoubt t f g q → p ≡ q
  same_doubt p q (invalid {fault = x} h) (invalid {fault = y} h') = ap (λ z. z.0) ((law_of_faults t Allocated g x y h).1 h')
  same_doubt p q (invalid {fault = x} h) (of_block v e) = absurd (valid_alone x h v)
  same_doubt p q (invalid {fault = x} h) (of_partner v b e) = absurd (valid_alone x h v)
  same_doubt p q (invalid {fault = x} h) (of_fact v b e s before lacks) = absurd (valid_alone x h v)
  same_doubt p q (of_block v e) (invalid {fault = y} h') = absurd (valid_alone y h' v)
  same_doubt p q (of_block v e) (of_block v' e') = same_some (sym e ∙ e')
  same_doubt p q (of_block v e) (of_partner v' b' e') = absurd (not_both (block_doubt t f g) p b' e)
  same_doubt p q (of_block v e) (of_fact v' b' e' s before lacks) = absurd (not_both (block_doubt t f g) p b' e)
  same_doubt p q (of_partner v b e) (invalid {fault = y} h') = absurd (valid_alone y h' v)
  same_doubt p q (of_partner v b e) (of_block v' e') = absurd (not_both (block_doubt t f g) q b e')
  same_doubt p q (of_partner v b e) (of_partner v' b' e') = same_some (sym e ∙ e')
  same_doubt p q (of_partner v b e) (of_fact v' b' e' s before lacks) = absurd (not_both (partner_doubt t f g) p e' e)
  same_doubt p q (of_fact v b e s before lacks) (invalid {fault = y} h') = absurd (valid_alone y h' v)
  same_doubt p q (of_fact v b e s before lacks) (of_block v' e') = absurd (not_both (block_doubt t f g) q b e')
  same_doubt p q (of_fact v b e s before lacks) (of_partner v' b' e') = absurd (not_both (partner_doubt t f g) q e e')
  same_doubt p q (of_fact {n = n} v b e s before lacks) (of_fact {n = m} v' b' e' s' before' lacks') = go (ordered n m)
    where
      go : Ordered n m → p ≡ q
      go (less o) = absurd (lacks (before' n o))
      go (same o) = same_some (sym s ∙ (ap (slice_get (counted_places t f)) o ∙ s'))
      go (more o) = absurd (lacks' (before m o))

pub law_of_doubts : LawOfDoubts
law_of_doubts t f g p q h = (disagree t f g p h, same_doubt t f g p q h)
