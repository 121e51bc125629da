-- What one changed row does to the list of links.
use Rattle.std.proofs.Common.{◌≡◌, ℕ, ◌<◌, ◌≤◌, Bool, true, false, cond, not, ◌&&◌, ◌||◌, eqb, ltb, List, [], length, get_or, replicate, set, sym, refl, ap, ◌∙◌, ⊎_elim, arith}
use Rattle.std.proofs.lemmas.List.{get_or_past, get_or-replicate, get_or-set_other, get_or-set_same}
use Rattle.std.proofs.lemmas.Bool.{cases_Bool, cases_eq, cases_lt, eq-eqb, le-ltb, lt-ltb, ne_eqb}
use Rattle.std.proofs.lemmas.Bool.Decides.{nat_tests}
use Rattle.network.specs.Networks.{Link, put, same_link, taken_out}
use Rattle.network.proofs.Links.{rising_put, rising_taken_out, stands_put, stands_taken_out}
use Rattle.sets.specs.Sets.{member}
use Rattle.sets.specs.declared.TrioSet.{TrioSet}
use Rattle.wiring.specs.Wires.{feeds, link_list, no_row}
use Rattle.wiring.specs.declared.links.Links.{Links}
use Rattle.wiring.proofs.Rows.{feeds_range, list_is, nothing_in, rising_list, stands_list}

-- what is fed once row v is the set s
row_feeds : (ls rs : Links) (v : ℕ) (s : TrioSet) → v < 16 → rs.rows ≡ set ls.rows v s → (w k : ℕ) → feeds rs w k ≡ cond (eqb w v) (member s k) (feeds ls w k)
unfolding feeds
row_feeds ls rs v s within is w k = ap (λ (x : List TrioSet). member (get_or x w no_row) k) is ∙ ⊎_elim at off (cases_eq w v)
  where
    at : w ≡ v → member (get_or (set ls.rows v s) w no_row) k ≡ cond (eqb w v) (member s k) (member (get_or ls.rows w no_row) k)
    at e =
        let h : v < length ls.rows = omega (arith, ls.long) in
        rw (eq-eqb w v e) (ap (λ x. member (get_or (set ls.rows v s) x no_row) k) e ∙ ap (λ x. member x k) (get_or-set_same ls.rows v s no_row h))

    off : (w ≡ v → ⊥) → member (get_or (set ls.rows v s) w no_row) k ≡ cond (eqb w v) (member s k) (member (get_or ls.rows w no_row) k)
    off ne = rw (ne_eqb w v ne) (ap (λ x. member x k) (get_or-set_other ls.rows v w s no_row ne))

-- rows that are as they were stand for the same list
pub same_rows : (ls rs : Links) → rs.rows ≡ ls.rows → link_list rs ≡ link_list ls
unfolding feeds
same_rows ls rs is = list_is rs (link_list ls) (rising_list ls) (λ l. ap (λ (x : List TrioSet). member (get_or x l.0 no_row) l.1) is ∙ sym (stands_list ls l))

pub list_put : (ls rs : Links) (v m : ℕ) (s : TrioSet) → v < 16 → rs.rows ≡ set ls.rows v s → ((k : ℕ) → member s k ≡ (feeds ls v k || (eqb k m && ltb m 16))) → link_list rs ≡ cond (ltb v 16 && ltb m 16) (put (v, m) (link_list ls)) (link_list ls)
list_put ls rs v m s within is more = ⊎_elim in_row past (cases_lt m 16)
  where
    fed : (w k : ℕ) → feeds rs w k ≡ cond (eqb w v) (feeds ls v k || (eqb k m && ltb m 16)) (feeds ls w k)
    fed w k = row_feeds ls rs v s within is w k ∙ ap (λ b. cond (eqb w v) b (feeds ls w k)) (more k)

    at : (w k : ℕ) → m < 16 → feeds rs w k ≡ (same_link (w, k) (v, m) || feeds ls w k)
    at w k h = fed w k ∙ ⊎_elim
        (λ e. rw (eq-eqb w v e, lt-ltb m 16 h) (grind (arith, nat_tests, ap (λ x. feeds ls x k) e)))
        (λ ne. rw (ne_eqb w v ne))
        (cases_eq w v)

    in_row : m < 16 → link_list rs ≡ cond (ltb v 16 && ltb m 16) (put (v, m) (link_list ls)) (link_list ls)
    in_row h = rw (lt-ltb v 16 within, lt-ltb m 16 h) (list_is rs (put (v, m) (link_list ls)) (rising_put (v, m) (link_list ls) (rising_list ls))
        (λ l. at l.0 l.1 h ∙ sym (stands_put (v, m) l (link_list ls) ∙ ap (λ b. same_link l (v, m) || b) (stands_list ls l))))

    kept : (w k : ℕ) → 16 ≤ m → feeds rs w k ≡ feeds ls w k
    kept w k h = fed w k ∙ ⊎_elim
        (λ e. rw (eq-eqb w v e, le-ltb m 16 h) (grind (arith, nat_tests, ap (λ x. feeds ls x k) e)))
        (λ ne. rw (ne_eqb w v ne))
        (cases_eq w v)

    past : 16 ≤ m → link_list rs ≡ cond (ltb v 16 && ltb m 16) (put (v, m) (link_list ls)) (link_list ls)
    past h = rw (lt-ltb v 16 within, le-ltb m 16 h) (list_is rs (link_list ls) (rising_list ls) (λ l. kept l.0 l.1 h ∙ sym (stands_list ls l)))

pub list_put_past : (ls rs : Links) (v m : ℕ) → 16 ≤ v → rs.rows ≡ ls.rows → link_list rs ≡ cond (ltb v 16 && ltb m 16) (put (v, m) (link_list ls)) (link_list ls)
list_put_past ls rs v m past is = rw (le-ltb v 16 past) (same_rows ls rs is)

pub list_taken_out : (ls rs : Links) (v m : ℕ) (s : TrioSet) → v < 16 → rs.rows ≡ set ls.rows v s → ((k : ℕ) → member s k ≡ (feeds ls v k && not (eqb k m))) → link_list rs ≡ taken_out (v, m) (link_list ls)
list_taken_out ls rs v m s within is less =
    list_is rs (taken_out (v, m) (link_list ls)) (rising_taken_out (v, m) (link_list ls) (rising_list ls))
    (λ l. at l.0 l.1 ∙ sym (stands_taken_out (v, m) l (link_list ls) ∙ ap (λ b. not (same_link (v, m) l) && b) (stands_list ls l)))
  where
    at : (w k : ℕ) → feeds rs w k ≡ (not (same_link (v, m) (w, k)) && feeds ls w k)
    at w k = row_feeds ls rs v s within is w k ∙ ap (λ b. cond (eqb w v) b (feeds ls w k)) (less k) ∙ ⊎_elim
        (λ e. rw (eq-eqb w v e, eq-eqb v w (sym e)) (grind (arith, nat_tests, ap (λ x. feeds ls x k) e)))
        (λ ne. rw (ne_eqb w v ne, ne_eqb v w (λ e. ne (sym e))))
        (cases_eq w v)

-- past the last row there is nothing to take out
pub list_taken_out_past : (ls rs : Links) (v m : ℕ) → 16 ≤ v → rs.rows ≡ ls.rows → link_list rs ≡ taken_out (v, m) (link_list ls)
list_taken_out_past ls rs v m past is =
    same_rows ls rs is ∙ list_is ls (taken_out (v, m) (link_list ls)) (rising_taken_out (v, m) (link_list ls) (rising_list ls))
    (λ l. sym (stands_taken_out (v, m) l (link_list ls) ∙ ap (λ b. not (same_link (v, m) l) && b) (stands_list ls l) ∙ ⊎_elim (gone l) (λ h. rw h (nothing (not (same_link (v, m) l)))) (cases_Bool (feeds ls l.0 l.1))))
  where
    nothing : (b : Bool) → (b && false) ≡ false
    nothing true = refl
    nothing false = refl

    gone : (l : Link) → feeds ls l.0 l.1 ≡ true → (not (same_link (v, m) l) && feeds ls l.0 l.1) ≡ feeds ls l.0 l.1
    gone l h =
        let r = feeds_range ls l.0 l.1 h in
        let ne : eqb v l.0 ≡ false = ne_eqb v l.0 (omega (arith, r.0)) in
        rw ne

-- rows that are all empty stand for no link
pub list_none : (ls : Links) → ((v k : ℕ) → feeds ls v k ≡ false) → link_list ls ≡ []
list_none ls none = list_is ls [] refl (λ l. none l.0 l.1)

-- an array of empty rows feeds nothing
pub empty_rows : (none : TrioSet) → ((k : ℕ) → member none k ≡ false) → (v k : ℕ) → member (get_or (replicate 16 none) v no_row) k ≡ false
empty_rows none empty v k =
    ⊎_elim (λ h. rw (get_or-replicate 16 v none no_row h) (empty k)) (λ h. rw (get_or_past (replicate 16 none) v no_row h) (nothing_in k)) (cases_lt v 16)
