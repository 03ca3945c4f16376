-- The tail of a slice, lent on and written at its start.
use Rattle.std.proofs.Common.{◌≡◌, ℕ, ◌-◌, List, ◌++◌, length, take, drop, ap, ◌∙◌, arith}
use borrow.Rule.Slice.PartMut.{put_mid}
use Rattle.std.proofs.lemmas.List.{append-nil, drop-drop, drop_all, take_rest, length-drop}
use Rattle.bringup.specs.Signals.{written_at}

pub tail_written : (memory : List ℕ) (place : ℕ) (list tail : List ℕ) → tail ≡ list ++ drop (length list) (take (length memory - place) (drop place memory)) → put_mid place (length memory - place) memory tail ≡ written_at memory place list
tail_written memory place list tail e =
    ap (λ ys. take place memory ++ ys)
    (ap (λ ys. tail ++ ys) (drop_all (length memory - place) (drop place memory) (omega (arith, length-drop place memory)))
    ∙ (append-nil tail
    ∙ (e
    ∙ (ap (λ ys. list ++ drop (length list) ys) (take_rest memory place)
    ∙ ap (λ ys. list ++ ys) (drop-drop (length list) place memory)))))
