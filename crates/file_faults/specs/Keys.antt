-- The keys of a device file, as they are written in it.
use Rattle.std.specs.Prelude.{ℕ, List, [], codes}
use Rattle.file_faults.specs.declared.key.Key.{Key}
use Rattle.file_faults.specs.declared.key.Key.TheVariants as keys

-- a key's bytes; the table itself, and a key without a meaning, have none
abbrev pub key_word : Key → List ℕ
key_word keys.Table = []
key_word (keys.Other _) = []
key_word keys.Handler = codes "handler"
key_word keys.Cluster = codes "cluster"
key_word keys.Class = codes "class"
key_word keys.Name = codes "name"
key_word keys.Adds = codes "adds"
key_word keys.Control = codes "control"
key_word keys.Id = codes "id"
key_word keys.Type = codes "type"
key_word keys.Min = codes "min"
key_word keys.Max = codes "max"
key_word keys.Step = codes "step"
key_word keys.Default = codes "default"
key_word keys.Elems = codes "elems"
key_word keys.Flags = codes "flags"
key_word keys.Menu = codes "menu"
key_word keys.Skip = codes "skip"
key_word keys.Private = codes "private"
key_word keys.Members = codes "members"
key_word keys.Manual = codes "manual"
key_word keys.Limit = codes "limit"
key_word keys.Told = codes "told"
key_word keys.Kind = codes "kind"
key_word keys.Most = codes "most"
key_word keys.First = codes "first"
key_word keys.Second = codes "second"
key_word keys.Member = codes "member"
key_word keys.OtherMember = codes "other"
key_word keys.Margin = codes "margin"
key_word keys.When = codes "when"
key_word keys.Excess = codes "excess"
key_word keys.More = codes "more"
key_word keys.Word = codes "word"
key_word keys.Follows = codes "follows"
key_word keys.Plus = codes "plus"
