-- When links are refused, and what linking and cutting leave.
use Rattle.std.proofs.Common.{◌≡◌, ℕ, ◌<◌, ◌≤◌, true, false, cond, not, ◌&&◌, ltb, List, [], ◌∷◌, length, Some, None, Err, ap, ◌∙◌, arith}
use Rattle.std.proofs.lemmas.Bool.{and_from, cond-true, le-ltb, lt-ltb, ltb-true, not-false}
use Rattle.network.specs.Cells.{edge, width}
use Rattle.network.specs.Changes.{absent, cut, link, network_after, refusal, too_wide}
use Rattle.network.specs.Chains.{joined}
use Rattle.network.specs.Limits.{within_limits}
use Rattle.network.specs.Networks.{Link, Network, has_module, has_voter, linked, module_count, put, taken_out, voter_count, with_link}
use Rattle.network.specs.Questions.{link_answer}
use Rattle.refusals.specs.declared.Refusal.{Refusal}
use Rattle.refusals.specs.declared.Refusal.TheVariants.{LinkStands, NoLink, CellTooWide}
use Rattle.network.specs.declared.Trio.{Trio}
use Rattle.network.specs.declared.Trio.TheVariants.{Voter, Module}
use Rattle.network.proofs.Dues.{after_change, one_stopped}
use Rattle.network.proofs.Keeps.{limits}
use Rattle.network.proofs.Links.{all_put}
use Rattle.sets.specs.Sets.{members}
use Rattle.wiring.specs.CellSets.{holds, in_range}
use Rattle.wiring.specs.Wires.{edge_list, link_list}
use Rattle.wiring.specs.declared.cell.Cell.{Cell}
use Rattle.wiring.specs.declared.links.Links.{Links}
use Rattle.cabinet.proofs.CellsOf.{voters_are}

module _ (n : Network) (v m : ℕ) where
  -- a trio that is lacking is told as by the question whether the link stands
  pub link_lacks : (e : Refusal) → Err e ≡ link_answer n v m → refusal (link v m) n ≡ Some e
  unfolding refusal
  link_lacks e asked = one_stopped (absent (Voter v) n) (absent (Module m) n) (linked n v m) e ((linked n v m, LinkStands) ∷ ((too_wide v m n, CellTooWide) ∷ [])) asked

  pub cut_lacks : (e : Refusal) → Err e ≡ link_answer n v m → refusal (cut v m) n ≡ Some e
  unfolding refusal
  cut_lacks e asked = one_stopped (absent (Voter v) n) (absent (Module m) n) (linked n v m) e ((not (linked n v m), NoLink) ∷ []) asked

  -- the checks of link and of cut, as far as they were passed
  module _ (voter_there : (absent (Voter v) n).0 ≡ false) where
    module _ (module_there : (absent (Module m) n).0 ≡ false) where
      pub link_again : linked n v m ≡ true → refusal (link v m) n ≡ Some LinkStands
      unfolding refusal
      link_again h = rw (voter_there, module_there, h)

      pub link_wide : linked n v m ≡ false → too_wide v m n ≡ true → refusal (link v m) n ≡ Some CellTooWide
      unfolding refusal
      link_wide free h = rw (voter_there, module_there, free, h)

      pub link_free : linked n v m ≡ false → too_wide v m n ≡ false → refusal (link v m) n ≡ None
      unfolding refusal
      link_free free h = rw (voter_there, module_there, free, h)

      pub cut_none : linked n v m ≡ false → refusal (cut v m) n ≡ Some NoLink
      unfolding refusal
      cut_none h = rw (voter_there, module_there, h)

      pub cut_free : linked n v m ≡ true → refusal (cut v m) n ≡ None
      unfolding refusal
      cut_free h = rw (voter_there, module_there, h)

      -- the new row of links, and the cell that the link makes
      module _ (ok : within_limits n ≡ true) (ls : Links) (is : link_list ls ≡ cond (ltb v 16 && ltb m 16) (put (v, m) n.links) n.links) where
        there : has_voter n v ≡ true
        there = not-false _ voter_there

        fed : has_module n m ≡ true
        fed = not-false _ module_there

        pub linked_list : link_list ls ≡ put (v, m) n.links
        linked_list =
            let l = limits n ok in
            is ∙ cond-true _ _ _ (and_from _ _ (lt-ltb v 16 (omega (arith, ltb-true v (voter_count n) there, l.few_voters))) (lt-ltb m 16 (omega (arith, ltb-true m (module_count n) fed, l.few_modules))))

        pub linked_width : (cell : Cell) → ((u : Trio) → holds cell u ≡ (in_range u && joined (edge_list ls) (Voter v) u)) → length (members cell.voters) ≡ width (with_link v m n) (Voter v)
        linked_width cell around =
            let l = limits n ok in
            let o = with_link v m n in
            ap length (voters_are o (Voter v) cell l.few_voters l.few_modules (all_put _ (v, m) n.links (and_from _ _ there fed) l.insides) there
            (λ u. around u ∙ ap (λ (ks : List Link). in_range u && joined (mathlib.Core.List.map edge ks) (Voter v) u) linked_list))

        pub wide_from : (cell : Cell) (k : ℕ) → ((u : Trio) → holds cell u ≡ (in_range u && joined (edge_list ls) (Voter v) u)) → k ≡ length (members cell.voters) → 12 < k → too_wide v m n ≡ true
        wide_from cell k around counted over = lt-ltb 12 _ (omega (arith, linked_width cell around, counted, over))

        pub narrow_from : (cell : Cell) (k : ℕ) → ((u : Trio) → holds cell u ≡ (in_range u && joined (edge_list ls) (Voter v) u)) → k ≡ length (members cell.voters) → k ≤ 12 → too_wide v m n ≡ false
        narrow_from cell k around counted under = le-ltb 12 _ (omega (arith, linked_width cell around, counted, under))

-- the network with other links
abbrev pub with_links : List Link → Network → Network
with_links ks n = record { voters = n.voters; modules = n.modules; links = ks }

pub linked_after : (n : Network) (v m : ℕ) (ks : List Link) → refusal (link v m) n ≡ None → ks ≡ put (v, m) n.links → with_links ks n ≡ network_after (link v m) n
linked_after n v m ks free is = ap (λ x. with_links x n) is ∙ after_change (link v m) n free

pub cut_after : (n : Network) (v m : ℕ) (ks : List Link) → refusal (cut v m) n ≡ None → ks ≡ taken_out (v, m) n.links → with_links ks n ≡ network_after (cut v m) n
cut_after n v m ks free is = ap (λ x. with_links x n) is ∙ after_change (cut v m) n free
