-- The commands of a script (of this project), over the words of a line.
use Rattle.std.specs.Prelude.{◌≡◌, ℕ, ◌+◌, ◌==◌, ◌&&◌, bit_or, Bool, true, false, not, ℤ, if◌then◌else◌, List, [], ◌∷◌, length, take, drop, filter, position, Option, None, Some, Result, Ok, Err, codes, slice_get, slice_index, ⊤}
use Rattle.std.specs.List.{slice_split}
use Rattle.std.specs.Option.{option_and_then, option_map, option_or}
use Rattle.std.specs.Str.{bytes_eq}
use Rattle.ctrl_types.specs.declared.value.CtrlValue.{CtrlValue}
use Rattle.ctrl_types.specs.Values.{zero_value}
use Rattle.ctrl_types.specs.declared.ids.CtrlId.{CtrlId}
use Rattle.ctrl_types.specs.declared.ids.ExtControl.{ExtControl}
use Rattle.ctrl_types.specs.declared.sub_flags.SubFlags.{SubFlags}
use Rattle.ctrl_types.specs.declared.sub_flags.TheConstants.SubFlags.{SEND_INITIAL, ALLOW_FEEDBACK}
use Rattle.script_lines.specs.ControlWords.{ControlWord, known_number}
use Rattle.script_lines.specs.Lexemes.{after, control_id, decimal_i64, decimal_u32, decimal_u64, hexadecimal_u32, value_of}
use Rattle.script_lines.specs.Names.{name_of}
use Rattle.script_lines.specs.declared.command.Command.{Command}
use Rattle.script_lines.specs.declared.command.Command.TheVariants.{Open, Close, Get, Set, Try, Grab, Range, Query, Next, Menu, Told, Alloc, Buffer, Queue, Cancel, Reinit, Free, State, Row, Begin, Complete, Off, Subscribe, Unsubscribe, Take, Audit}
use Rattle.script_lines.specs.declared.command.WhichWord.{WhichWord}
use Rattle.script_lines.specs.declared.command.WhichWord.TheVariants.{Number, Request}
use Rattle.script_lines.specs.declared.fault.LineFault.{LineFault}
use Rattle.script_lines.specs.declared.fault.LineFault.TheVariants.{NotACommand, Memory}
use Rattle.script_lines.specs.declared.name.Name.{Name}
use Rattle.script_lines.specs.declared.parse.EntryForm.{EntryForm}
use Rattle.script_lines.specs.declared.parse.EntryForm.TheVariants.{Control, ControlWithValue}
use Rattle.script_lines.specs.declared.parse.RequestVerb.{RequestVerb}
use Rattle.script_lines.specs.declared.parse.RequestVerb.TheVariants as request_verbs
use Rattle.script_lines.specs.declared.parse.Verb.{Verb}
use Rattle.script_lines.specs.declared.parse.Verb.TheVariants as verbs

-- the words of a line: what stands between spaces
abbrev pub words : List ℕ → List (List ℕ)
words line = filter (λ w. not (length w == 0)) (slice_split (λ b. b == 32) line)

-- a request by its name, or a number by an id
abbrev pub which_at : Option (List ℕ) → List ℕ → Option WhichWord
which_at (Some name) word = option_map (λ n. Request n) (name_of name)
which_at None word = option_map (λ n. Number n) (hexadecimal_u32 word)

-- the words for values that lists speak of
abbrev pub which_words : List (List ℕ)
which_words = codes "cur" ∷ codes "def" ∷ codes "user" ∷ codes "camera" ∷ []

-- what `which` is for each, in the same order
abbrev pub which_numbers : List ℕ
which_numbers = 0 ∷ 0x0f000000 ∷ 0x00980000 ∷ 0x009a0000 ∷ []

-- what `which` is, by its word
abbrev pub fixed_which_of : List ℕ → Option ℕ
fixed_which_of word = option_and_then (slice_get which_numbers) (position (bytes_eq word) which_words)

-- which values a list speaks of
abbrev pub which_of : List ℕ → Option WhichWord
which_of word = option_or (option_map (λ n. Number n) (fixed_which_of word)) (which_at (after (codes "req:") word) word)

abbrev pub with_value : Option CtrlId → Option CtrlValue → Option ExtControl
with_value (Some id) (Some value) = Some (record { id = id; value = value })
with_value (Some id) None = None
with_value None value = None

-- a control before an equals sign at this place, and its value behind it
abbrev pub entry_at : List ControlWord → List ℕ → Option ℕ → Option ExtControl
entry_at known word None = None
entry_at known word (Some at) = with_value (control_id known (take at word)) (value_of (drop (at + 1) word))

-- an entry of a list: a control, with a value or not
abbrev pub entry_of : List ControlWord → EntryForm → List ℕ → Option ExtControl
entry_of known Control word = option_map (λ id. record { id = id; value = zero_value }) (control_id known word)
entry_of known ControlWithValue word = entry_at known word (position (λ b. b == 61) word)

abbrev pub onto : Option ExtControl → Option (List ExtControl) → Option (List ExtControl)
onto (Some entry) (Some list) = Some (entry ∷ list)
onto (Some entry) None = None
onto None list = None

-- the entries that some words write, if each writes one
abbrev pub list_of : List ControlWord → EntryForm → List (List ℕ) → Option (List ExtControl)
list_of known form [] = Some []
list_of known form (w ∷ ws) = onto (entry_of known form w) (list_of known form ws)

abbrev pub open_parts : Option Name → Option ℕ → Option Command
open_parts (Some fh) (Some handler) = Some (Open fh handler)
open_parts (Some fh) None = None
open_parts None handler = None

-- the operands of `open`
abbrev pub open_of : List (List ℕ) → Option Command
open_of (fh ∷ handler ∷ []) = open_parts (name_of fh) (decimal_u32 handler)
open_of _ = None

abbrev pub list_parts : (Name → WhichWord → List ExtControl → Command) → Option Name → Option WhichWord → Option (List ExtControl) → Option Command
list_parts make (Some fh) (Some which) (Some list) = Some (make fh which list)
list_parts make (Some fh) (Some which) None = None
list_parts make (Some fh) None list = None
list_parts make None which list = None

-- the operands of a command on a list
abbrev pub list_command_of : List ControlWord → (Name → WhichWord → List ExtControl → Command) → EntryForm → List (List ℕ) → Option Command
list_command_of known make form [] = None
list_command_of known make form (fh ∷ []) = None
list_command_of known make form (fh ∷ which ∷ entries) = list_parts make (name_of fh) (which_of which) (list_of known form entries)

-- the operand of `close`
abbrev pub close_of : List (List ℕ) → Option Command
close_of (fh ∷ []) = option_map (λ name. Close name) (name_of fh)
close_of _ = None

-- how a grab is to be: `on` or `off`
abbrev pub on_or_off : List ℕ → Option Bool
on_or_off word =
    if bytes_eq word (codes "on") then Some true
    else if bytes_eq word (codes "off") then Some false
    else None

abbrev pub grab_parts : Option ℕ → Option Bool → Option Command
grab_parts (Some control) (Some on) = Some (Grab control on)
grab_parts (Some control) None = None
grab_parts None on = None

-- the operands of `grab`: a known word, which stands for its control's number, and `on` or `off`
abbrev pub grab_of : List ControlWord → List (List ℕ) → Option Command
grab_of known (control ∷ form ∷ []) = grab_parts (known_number known control) (on_or_off form)
grab_of known _ = None

abbrev pub range_parts : Option ℕ → Option ℤ → Option ℤ → Option ℕ → Option ℤ → Option Command
range_parts (Some control) (Some min) (Some max) (Some step) (Some default_value) = Some (Range control min max step default_value)
range_parts (Some control) (Some min) (Some max) (Some step) None = None
range_parts (Some control) (Some min) (Some max) None default_value = None
range_parts (Some control) (Some min) None step default_value = None
range_parts (Some control) None max step default_value = None
range_parts None min max step default_value = None

-- the operands of `range`: a known word, which stands for its control's number, and the minimum, the maximum, the step and the default
abbrev pub range_of : List ControlWord → List (List ℕ) → Option Command
range_of known (control ∷ min ∷ max ∷ step ∷ default_value ∷ []) =
    range_parts (known_number known control) (decimal_i64 min) (decimal_i64 max) (decimal_u64 step) (decimal_i64 default_value)
range_of known _ = None

abbrev pub both : Option Name → Option CtrlId → Option (Name × CtrlId)
both (Some fh) (Some id) = Some (fh, id)
both (Some fh) None = None
both None id = None

-- a file handle and a control
abbrev pub handle_and_control : List ControlWord → List (List ℕ) → Option (Name × CtrlId)
handle_and_control known (fh ∷ control ∷ []) = both (name_of fh) (control_id known control)
handle_and_control known _ = None

-- the operands of `query`
abbrev pub query_of : List ControlWord → List (List ℕ) → Option Command
query_of known operands = option_map (λ p. Query p.0 p.1) (handle_and_control known operands)

abbrev pub next_parts : Option Name → Option ℕ → Option Command
next_parts (Some fh) (Some id) = Some (Next fh (record { 0 = id }))
next_parts (Some fh) None = None
next_parts None id = None

-- the operands of `next`
abbrev pub next_of : List (List ℕ) → Option Command
next_of (fh ∷ id ∷ []) = next_parts (name_of fh) (hexadecimal_u32 id)
next_of _ = None

abbrev pub menu_parts : Option Name → Option CtrlId → Option ℕ → Option Command
menu_parts (Some fh) (Some id) (Some index) = Some (Menu fh id index)
menu_parts (Some fh) (Some id) None = None
menu_parts (Some fh) None index = None
menu_parts None id index = None

-- the operands of `menu`
abbrev pub menu_of : List ControlWord → List (List ℕ) → Option Command
menu_of known (fh ∷ control ∷ index ∷ []) = menu_parts (name_of fh) (control_id known control) (decimal_u32 index)
menu_of known _ = None

-- the operand of `told`
abbrev pub replied_with : List (List ℕ) → Option Command
replied_with (cluster ∷ []) = option_map (λ n. Told n) (decimal_u32 cluster)
replied_with _ = None

abbrev pub buffer_parts : Option Name → Option ℕ → Option Command
buffer_parts (Some request) (Some buffer) = Some (Buffer request buffer)
buffer_parts (Some request) None = None
buffer_parts None buffer = None

-- the operands of `buffer`
abbrev pub buffer_of : List (List ℕ) → Option Command
buffer_of (request ∷ buffer ∷ []) = buffer_parts (name_of request) (decimal_u32 buffer)
buffer_of _ = None

-- the command of a verb on the request with this name
abbrev pub on_request : RequestVerb → Name → Command
on_request request_verbs.Alloc request = Alloc request
on_request request_verbs.Queue request = Queue request
on_request request_verbs.Cancel request = Cancel request
on_request request_verbs.Reinit request = Reinit request
on_request request_verbs.Free request = Free request
on_request request_verbs.State request = State request

-- the operand of a command with a request and nothing else
abbrev pub request_of : RequestVerb → List (List ℕ) → Option Command
request_of verb (request ∷ []) = option_map (λ name. on_request verb name) (name_of request)
request_of verb _ = None

-- the operand of `row`
abbrev pub row_of : List (List ℕ) → Option Command
row_of (place ∷ []) = option_map (λ n. Row n) (decimal_u32 place)
row_of _ = None

-- a command that has no operand
abbrev pub bare_of : Command → List (List ℕ) → Option Command
bare_of command [] = Some command
bare_of command _ = None

-- how a file handle subscribes, by one word: `initial`, an event is raised at once, or `feedback`, it gets the events of its own sets too
abbrev pub sub_flag : List ℕ → Option SubFlags
sub_flag word =
    if bytes_eq word (codes "initial") then Some SEND_INITIAL
    else if bytes_eq word (codes "feedback") then Some ALLOW_FEEDBACK
    else None

-- the same by no word, by one, or by both in this order
abbrev pub sub_flags : List (List ℕ) → Option SubFlags
sub_flags [] = Some (record { 0 = 0 })
sub_flags (word ∷ []) = sub_flag word
sub_flags (first ∷ second ∷ []) =
    if bytes_eq first (codes "initial") && bytes_eq second (codes "feedback") then Some (record { 0 = bit_or SEND_INITIAL.0 ALLOW_FEEDBACK.0 })
    else None
sub_flags _ = None

abbrev pub subscribe_parts : Option Name → Option CtrlId → Option SubFlags → Option Command
subscribe_parts (Some fh) (Some id) (Some flags) = Some (Subscribe fh id flags)
subscribe_parts (Some fh) (Some id) None = None
subscribe_parts (Some fh) None flags = None
subscribe_parts None id flags = None

-- the operands of `sub`
abbrev pub subscribe_of : List ControlWord → List (List ℕ) → Option Command
subscribe_of known [] = None
subscribe_of known (fh ∷ []) = None
subscribe_of known (fh ∷ control ∷ words) = subscribe_parts (name_of fh) (control_id known control) (sub_flags words)

-- the operands of `unsub`
abbrev pub unsubscribe_of : List ControlWord → List (List ℕ) → Option Command
unsubscribe_of known operands = option_map (λ p. Unsubscribe p.0 p.1) (handle_and_control known operands)

-- the operand of `take`
abbrev pub take_of : List (List ℕ) → Option Command
take_of (fh ∷ []) = option_map (λ name. Take name) (name_of fh)
take_of _ = None

-- the first words of commands
abbrev pub verb_words : List (List ℕ)
verb_words =
    codes "open" ∷ codes "close" ∷ codes "get" ∷ codes "set" ∷ codes "try" ∷ codes "grab" ∷ codes "range" ∷ codes "query" ∷ codes "next" ∷ codes "menu" ∷ codes "told"
    ∷ codes "alloc" ∷ codes "buffer" ∷ codes "queue" ∷ codes "cancel" ∷ codes "reinit" ∷ codes "free" ∷ codes "state" ∷ codes "row" ∷ codes "begin"
    ∷ codes "complete" ∷ codes "off" ∷ codes "sub" ∷ codes "unsub" ∷ codes "take" ∷ codes "audit" ∷ []

-- what they stand for, in the same order
abbrev pub verbs_meant : List Verb
verbs_meant =
    verbs.Open ∷ verbs.Close ∷ verbs.Get ∷ verbs.Set ∷ verbs.Try ∷ verbs.Grab ∷ verbs.Range ∷ verbs.Query ∷ verbs.Next ∷ verbs.Menu ∷ verbs.Told
    ∷ verbs.OfRequest request_verbs.Alloc ∷ verbs.Buffer ∷ verbs.OfRequest request_verbs.Queue ∷ verbs.OfRequest request_verbs.Cancel
    ∷ verbs.OfRequest request_verbs.Reinit ∷ verbs.OfRequest request_verbs.Free ∷ verbs.OfRequest request_verbs.State ∷ verbs.Row ∷ verbs.Begin
    ∷ verbs.Complete ∷ verbs.Off ∷ verbs.Subscribe ∷ verbs.Unsubscribe ∷ verbs.Take ∷ verbs.Audit ∷ []

-- what the first word of a command stands for
abbrev pub verb_of : List ℕ → Option Verb
verb_of word = option_and_then (slice_get verbs_meant) (position (bytes_eq word) verb_words)

-- the command that a verb and its operands write
abbrev pub command_of : List ControlWord → Option Verb → List (List ℕ) → Option Command
command_of known (Some verbs.Open) operands = open_of operands
command_of known (Some verbs.Close) operands = close_of operands
command_of known (Some verbs.Get) operands = list_command_of known (λ fh which list. Get fh which list) Control operands
command_of known (Some verbs.Set) operands = list_command_of known (λ fh which list. Set fh which list) ControlWithValue operands
command_of known (Some verbs.Try) operands = list_command_of known (λ fh which list. Try fh which list) ControlWithValue operands
command_of known (Some verbs.Grab) operands = grab_of known operands
command_of known (Some verbs.Range) operands = range_of known operands
command_of known (Some verbs.Query) operands = query_of known operands
command_of known (Some verbs.Next) operands = next_of operands
command_of known (Some verbs.Menu) operands = menu_of known operands
command_of known (Some verbs.Told) operands = replied_with operands
command_of known (Some verbs.Buffer) operands = buffer_of operands
command_of known (Some (verbs.OfRequest verb)) operands = request_of verb operands
command_of known (Some verbs.Row) operands = row_of operands
command_of known (Some verbs.Begin) operands = bare_of Begin operands
command_of known (Some verbs.Complete) operands = bare_of Complete operands
command_of known (Some verbs.Off) operands = bare_of Off operands
command_of known (Some verbs.Subscribe) operands = subscribe_of known operands
command_of known (Some verbs.Unsubscribe) operands = unsubscribe_of known operands
command_of known (Some verbs.Take) operands = take_of operands
command_of known (Some verbs.Audit) operands = bare_of Audit operands
command_of known None operands = None

-- What was read of a line is what it writes; only want of memory may take its place.
abbrev pub IsRead : {T : Type 0} → Result T LineFault → Option T → Type 0
IsRead (Ok value) written = written ≡ Some value
IsRead (Err NotACommand) written = written ≡ None
IsRead (Err Memory) written = ⊤

-- a line without a word, or whose first word begins with `#`, is skipped
abbrev pub line_of : List ControlWord → List (List ℕ) → Option (Option Command)
line_of known [] = Some None
line_of known (verb ∷ operands) =
    if slice_index verb 0 == 35 then Some None
    else option_map (λ command. Some command) (command_of known (verb_of verb) operands)
