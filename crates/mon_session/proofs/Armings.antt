-- The catching table rule by rule.
use Rattle.std.specs.Prelude.{◌≡◌, ℕ, suc, ◌+◌, ◌<◌, ◌≤◌, true, false, not, ◌==◌, List, [], ◌∷◌, ◌++◌, length, drop, map, refl}
use Rattle.std.proofs.Common.{cond, get_or, drop-cons, arith, ap, sym, ◌∙◌}
use Rattle.std.proofs.lemmas.List.{append_assoc, append-nil, drop_all}
use Rattle.mon_table.specs.declared.rule.Rule.{Rule}
use Rattle.of_msgs.specs.declared.command.Command.TheVariants.{Add}
use Rattle.mon_legal.specs.Messages.{put_all, catching_rule, mark_rule, other_tags, own_mod}
use Rattle.mon_session.specs.Arming.{put_if, adding_if}

pub put_more : (tag other : ℕ) (rest : List ℕ) (t : List Rule)
    → put_all (map catching_rule (other_tags tag (other ∷ rest)) ++ mark_rule ∷ []) t
    ≡ put_all (map catching_rule (other_tags tag rest) ++ mark_rule ∷ []) (put_if (not (other == tag)) (catching_rule other) t)
put_more tag other rest t =
    elim (other == tag) as (λ b. put_all (map catching_rule (cond (not b) (other ∷ other_tags tag rest) (other_tags tag rest)) ++ mark_rule ∷ []) t
    ≡ put_all (map catching_rule (other_tags tag rest) ++ mark_rule ∷ []) (put_if (not b) (catching_rule other) t)) [
      | true ↦ refl
      | false ↦ refl
    ]

-- and its frames
pub frames_more : (tag other : ℕ) (rest : List ℕ) (frames : List (List ℕ))
    → frames ++ map (λ o. own_mod Add (catching_rule o)) (other_tags tag (other ∷ rest))
    ≡ (frames ++ adding_if (not (other == tag)) other) ++ map (λ o. own_mod Add (catching_rule o)) (other_tags tag rest)
frames_more tag other rest frames =
    elim (other == tag) as (λ b. frames ++ map (λ o. own_mod Add (catching_rule o)) (cond (not b) (other ∷ other_tags tag rest) (other_tags tag rest))
    ≡ (frames ++ adding_if (not b) other) ++ map (λ o. own_mod Add (catching_rule o)) (other_tags tag rest)) [
      | true ↦ ap (λ (fs : List (List ℕ)). fs ++ map (λ o. own_mod Add (catching_rule o)) (other_tags tag rest)) (sym (append-nil frames))
      | false ↦ sym (append_assoc frames (own_mod Add (catching_rule other) ∷ []) (map (λ o. own_mod Add (catching_rule o)) (other_tags tag rest)))
    ]

-- the last two come behind them
pub frames_close : (x y : List ℕ) (frames : List (List ℕ)) → (frames ++ x ∷ []) ++ y ∷ [] ≡ frames ++ x ∷ y ∷ []
frames_close x y frames = append_assoc frames (x ∷ []) (y ∷ [])

-- one tag more is done
pub frames_at : (tag i x d : ℕ) (xs : List ℕ) (frames after all : List (List ℕ)) → i < length xs → x ≡ get_or xs i d → after ≡ frames ++ adding_if (not (x == tag)) x
    → frames ++ map (λ o. own_mod Add (catching_rule o)) (other_tags tag (drop i xs)) ≡ all
    → after ++ map (λ o. own_mod Add (catching_rule o)) (other_tags tag (drop (i + 1) xs)) ≡ all
frames_at tag i x d xs frames after all less at a w =
    let more : i + 1 ≡ suc i = omega arith in
    rw more
    (ap (λ (fs : List (List ℕ)). fs ++ map (λ o. own_mod Add (catching_rule o)) (other_tags tag (drop (suc i) xs))) a
    ∙ (sym (frames_more tag x (drop (suc i) xs) frames)
    ∙ (ap (λ (ys : List ℕ). frames ++ map (λ o. own_mod Add (catching_rule o)) (other_tags tag ys)) (ap (λ (y : ℕ). y ∷ drop (suc i) xs) at ∙ sym (drop-cons xs i d less)) ∙ w)))

-- and all are
pub frames_end : (tag i : ℕ) (xs : List ℕ) (frames all : List (List ℕ)) → length xs ≤ i
    → frames ++ map (λ o. own_mod Add (catching_rule o)) (other_tags tag (drop i xs)) ≡ all → frames ≡ all
frames_end tag i xs frames all le w =
    sym (append-nil frames) ∙ (ap (λ (ys : List ℕ). frames ++ map (λ o. own_mod Add (catching_rule o)) (other_tags tag ys)) (sym (drop_all i xs le)) ∙ w)
