-- The words of commands (this product's own choice).
use Rattle.std.specs.Prelude.{ℕ, List, [], ◌∷◌, map, codes, string_bytes, String}
use Rattle.std.specs.declared.alloc.Global.{Global}
use Rattle.stamp_main.specs.declared.command.Command.{Command}
use Rattle.stamp_main.specs.declared.command.Command.TheVariants.{Sign, Replay, Serve}

-- the bytes of each word
abbrev pub texts_of : List (String Global) → List (List ℕ)
texts_of words = map string_bytes words

-- the words that give the command
abbrev pub words_of : Command → List (List ℕ)
words_of (Sign key) = codes "sign" ∷ key.now ∷ []
words_of (Replay moment account first second) =
    codes "replay" ∷ moment.now ∷ account.now ∷ first.now ∷ second.now ∷ []
words_of (Serve address workers account first second) =
    codes "serve" ∷ address.now ∷ workers.now ∷ account.now ∷ first.now ∷ second.now ∷ []
